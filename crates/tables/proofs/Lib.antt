-- The laws of this crate. Assumes nothing.
pub mod Opened
pub mod NameLaws
pub mod CellLaws
pub mod MapLaws
pub mod NumberLaws
pub mod Appearing
pub mod Renumbering
pub mod RowLaws
