pub mod Checks
pub mod Counted
pub mod Parts
