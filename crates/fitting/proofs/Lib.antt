-- Laws of the cells of the search. Assumes nothing.
pub mod Opened
pub mod PartLaws
pub mod AmongLaws
pub mod MatchLaws
pub mod WantedLaws
pub mod BarrenLaws
pub mod NotedLaws
pub mod SearchLaws
pub mod ChooseLaws
pub mod KnownLaws
