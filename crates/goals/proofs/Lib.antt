-- The laws of this crate. Assumes nothing.
pub mod GoalLetters
pub mod GoalLaws
