pub mod Answers
pub mod Promise
pub mod Parts
pub mod OneResult
pub mod Copying
pub mod Turning
