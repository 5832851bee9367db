-- Laws of pairing. Assumes nothing.
pub mod PairLaws
