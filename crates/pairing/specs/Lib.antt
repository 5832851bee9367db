-- What the tables of a renaming stand for, and what pairing promises. Assumes nothing.
pub mod Renamings
