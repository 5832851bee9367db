-- The definitions of this crate, in reading order. Assumes nothing.
pub mod Listing
pub mod Writing
pub mod Ends
