-- The laws of this crate. Assumes nothing.
pub mod Pasted
pub mod Drafts
pub mod Grown
pub mod AddLaws
pub mod RuleLaws
pub mod Whole
