-- A program as read, in its tables. Assumes nothing.
pub mod Inputs
