-- Laws of this crate's definitions. Assumes nothing.
pub mod Opened
pub mod WellFormed
pub mod KeptFirst
pub mod Known
pub mod Vocabulary
pub mod GoalVocabulary
pub mod Tabled
pub mod ByValue
