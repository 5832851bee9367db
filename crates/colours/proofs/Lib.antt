-- Laws of colours, keys and classes. Assumes nothing.
pub mod RowLaws
pub mod ColourLaws
pub mod RoundLaws
pub mod AgreeLaws
pub mod KeyLaws
pub mod ClassLaws
pub mod NumberLaws
pub mod FirstLaws
pub mod OrderLaws
