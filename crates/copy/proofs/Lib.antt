pub mod Sizes
pub mod Laid
pub mod Ways
