-- Laws of the answers, and of what is printed of them. Assumes nothing.
pub mod ReplyLaws
pub mod OutcomeLaws
pub mod CheckLaws
pub mod NumberLaws
pub mod PrintLaws
