-- What the stages of a run ask. Assumes nothing.
pub mod Stages
