pub mod Perform
pub mod Session
