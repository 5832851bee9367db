-- The definitions of this crate, in reading order. Assumes nothing.
pub mod Answers
pub mod Forms
pub mod Programs
pub mod Goals
pub mod Claims
