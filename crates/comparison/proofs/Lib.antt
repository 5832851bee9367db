-- Laws of the comparison. Assumes nothing.
pub mod PlaceLaws
pub mod SearchLaws
pub mod SettleLaws
pub mod NarrowLaws
pub mod PartingLaws
pub mod DecideLaws
