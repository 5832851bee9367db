-- Laws of the engine's cells. Assumes nothing.
pub mod Opened
pub mod FireLaws
pub mod GapLaws
pub mod SolveLaws
pub mod RuleLaws
pub mod FrontLaws
pub mod FiredLaws
pub mod KeepsLaws
pub mod StepLaws
pub mod StatedLaws
pub mod RunLaws
pub mod HoldLaws
pub mod EnterLaws
pub mod GoalLaws
