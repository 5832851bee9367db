-- Laws of joined heads and of the overlaps that are left. Assumes nothing.
pub mod JoinLaws
pub mod RestLaws
pub mod TermLaws
pub mod HeadLaws
pub mod PairedLaws
pub mod DropLaws
pub mod PositionLaws
pub mod LayLaws
pub mod WithinLaws
pub mod GoalLaws
pub mod NodeLaws
pub mod OverlapLaws
pub mod ShareLaws
