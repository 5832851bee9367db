-- Laws of parts. Assumes nothing.
pub mod CancelLaws
pub mod PartLaws
pub mod LineLaws
