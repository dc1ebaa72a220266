pub mod Rows
pub mod Tests
pub mod Lines
pub mod Steps
pub mod Walks
pub mod Ends
pub mod OneResult
