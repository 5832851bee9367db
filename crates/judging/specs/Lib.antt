-- What judging an overlap asks and promises. Assumes nothing.
pub mod Tidying
pub mod Judging
