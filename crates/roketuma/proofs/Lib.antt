-- Laws of reading texts. Assumes nothing.
pub mod ReadLaws
