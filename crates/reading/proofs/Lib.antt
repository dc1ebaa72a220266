pub mod Kept
pub mod Reached
pub mod Profile
pub mod Opened
pub mod Viewed
pub mod Order
pub mod Claims
pub mod OneResult
