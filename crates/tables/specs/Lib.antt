-- The definitions of this crate, in reading order. Assumes nothing.
pub mod Layout
pub mod Cells
pub mod Rows
pub mod Names
pub mod Numbers
