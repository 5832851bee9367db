-- The laws of this crate. Assumes nothing.
pub mod Letters
pub mod Held
pub mod Named
pub mod TermCells
pub mod TermLaws
pub mod HeadLaws
pub mod ConstraintLaws
pub mod Weighing
pub mod Spelling
