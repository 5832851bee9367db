-- What the stages of paging promise. Assumes nothing.
pub mod Paging
