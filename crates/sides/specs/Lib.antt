-- What a side of an overlap asks and promises. Assumes nothing.
pub mod Sides
