-- Laws of the sides of an overlap. Assumes nothing.
pub mod TallyLaws
pub mod SideLaws
pub mod EndLaws
