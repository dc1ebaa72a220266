pub mod Answers
pub mod Closing
pub mod Opening
pub mod Creating
pub mod OneResult
pub mod Viewing
pub mod CopyTold
pub mod TurnTold
