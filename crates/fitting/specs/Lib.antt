-- How the arrays of the search decode. Assumes nothing.
pub mod Cells
pub mod Positions
pub mod Known
