-- Laws of this crate's definitions. Assumes nothing.
pub mod SweepLaws
pub mod AnswerLaws
