-- The laws of this crate: of its definitions, and then of the writer. Assumes nothing.
pub mod Lined
pub mod PieceLaws
pub mod LineLaws
pub mod Contents
pub mod FeedLaws
pub mod ReadBack
pub mod SizeLaws
pub mod PlaceLaws
pub mod PageLaws
