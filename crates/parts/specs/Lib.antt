-- What a part of a state is. Assumes nothing.
pub mod Parts
