pub mod Parts
pub mod Turns
pub mod Keys
pub mod All
pub mod Values
