-- Laws of this crate's definitions, in reading order. Assumes nothing.
pub mod Opened
pub mod Bools
pub mod Laws
pub mod ListLaws
pub mod ClassLaws
pub mod LineLaws
pub mod Keys
pub mod Numbers
pub mod Decimals
pub mod ConstantLaws
pub mod Words
pub mod Passing
pub mod Splitting
pub mod SplitLaws
pub mod PartingLaws
