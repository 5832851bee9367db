-- What the stages of a check ask and promise. Assumes nothing.
pub mod Checking
