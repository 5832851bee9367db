-- Laws of the stages of a run. Assumes nothing.
pub mod EnterLaws
pub mod ReadyLaws
pub mod ReadingLaws
