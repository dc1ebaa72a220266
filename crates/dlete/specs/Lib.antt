pub mod Fits
pub mod Freed
