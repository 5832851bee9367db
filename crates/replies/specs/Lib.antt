-- The definitions of this crate, in reading order. Assumes nothing.
pub mod Replies
pub mod Claims
pub mod Starred
