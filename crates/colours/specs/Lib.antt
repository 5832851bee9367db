-- What colours, keys and classes of constraints are, and what the functions over them promise. Assumes nothing.
pub mod Rows
pub mod Bounds
pub mod Ends
pub mod Colours
pub mod Keys
pub mod Classes
pub mod Numbering
pub mod Order
