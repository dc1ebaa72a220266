pub mod Sizes
pub mod Marks
pub mod Changes
pub mod Steps
pub mod Ways
