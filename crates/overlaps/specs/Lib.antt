-- Joined heads, and the overlaps that are left. Assumes nothing.
pub mod Joins
pub mod Cells
pub mod Overlapped
pub mod Rests
pub mod Shares
