-- What the comparison's tables stand for, and what its functions promise. Assumes nothing.
pub mod Placements
pub mod Comparing
pub mod Settlements
pub mod Narrowings
pub mod Partings
