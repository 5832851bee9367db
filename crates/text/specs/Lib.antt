-- The definitions of this crate, in reading order. Assumes nothing.
pub mod Bytes
pub mod Lists
pub mod Lines
pub mod Fields
pub mod Constants
pub mod Keys
pub mod Cursors
pub mod Splits
