-- The definitions of this crate, in reading order. Assumes nothing.
pub mod Verdicts
pub mod Checks
