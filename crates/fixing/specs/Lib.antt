-- Weights of terms, and what finding variables that every renaming must pair promises. Assumes nothing.
pub mod Weights
pub mod Hubs
