-- Laws of a program and a goal as read, in their tables. Assumes nothing.
pub mod KnownLaws
pub mod OverlapVocabulary
pub mod ProgramLaws
pub mod TabledLaws
