-- The walk over all overlaps, and the verdict. Assumes nothing.
pub mod Walks
pub mod Verdicts
