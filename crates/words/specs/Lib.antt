pub mod Words
pub mod Keys
pub mod Slices
