-- What reading texts promises. Assumes nothing.
pub mod Readings
