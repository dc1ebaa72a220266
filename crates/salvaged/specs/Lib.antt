pub mod Spots
pub mod Carried
pub mod Reported
pub mod Whole
