-- Laws of judging an overlap. Assumes nothing.
pub mod TidyLaws
pub mod EndLaws
pub mod JoinLaws
pub mod StepLaws
