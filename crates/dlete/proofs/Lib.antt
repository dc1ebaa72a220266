pub mod Gone
pub mod Reached
pub mod Emptied
pub mod Planned
pub mod Ended
