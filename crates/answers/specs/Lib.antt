-- What the public functions' answers mean and promise, in reading order. Assumes nothing.
pub mod Results
pub mod Answers
pub mod Numbers
pub mod Outcomes
pub mod Promises
