-- How the engine's arrays decode. Assumes nothing.
pub mod Cells
pub mod States
pub mod Runs
pub mod Stated
