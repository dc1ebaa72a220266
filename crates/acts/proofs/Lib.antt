pub mod Moves
pub mod Ways
pub mod Carried
