pub mod Good
pub mod Spots
pub mod Laid
pub mod Putting
pub mod Reading
pub mod Words
pub mod Whole
