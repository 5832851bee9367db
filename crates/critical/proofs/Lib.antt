-- Laws of the walk over all overlaps, and of the verdict. Assumes nothing.
pub mod JudgeLaws
pub mod WalkLaws
pub mod StandLaws
pub mod StepLaws
pub mod TableLaws
pub mod VerdictLaws
