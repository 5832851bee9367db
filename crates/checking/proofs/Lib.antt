-- Laws of the stages of a check. Assumes nothing.
pub mod CheckableLaws
pub mod CheckingLaws
