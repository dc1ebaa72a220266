pub mod Answers
pub mod Finished
pub mod Reading
pub mod Fits
pub mod Claims
pub mod OneResult
