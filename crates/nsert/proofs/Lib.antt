pub mod Planning
pub mod Fits
pub mod Cutting
pub mod Splitting
pub mod Telling
