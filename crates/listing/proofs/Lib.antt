-- The laws of this crate. Assumes nothing.
pub mod Opened
pub mod WriteLaws
pub mod LineLaws
pub mod LetterLaws
pub mod EndLaws
pub mod SizeLaws
pub mod NamingLaws
