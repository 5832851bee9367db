-- The laws of this crate. Assumes nothing.
pub mod Numbers
pub mod Placed
