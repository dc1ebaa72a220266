pub mod Granting
pub mod Readying
