-- The laws of this crate. Assumes nothing.
pub mod Opened
pub mod CheckLaws
