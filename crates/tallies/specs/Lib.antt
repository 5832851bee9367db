-- The tables by symbol. Assumes nothing.
pub mod Symbols
