-- Laws of weights and of variables that every renaming must pair. Assumes nothing.
pub mod ForcedLaws
pub mod WeightLaws
pub mod HubLaws
