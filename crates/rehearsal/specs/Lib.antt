-- The definitions of this crate. Assumes nothing.
pub mod Sweep
pub mod Answered
