pub mod Create
pub mod Inspect
pub mod Tree
pub mod Holds
pub mod Inspected
pub mod Copied
pub mod Turned
