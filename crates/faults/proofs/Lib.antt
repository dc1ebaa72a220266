pub mod Cases
pub mod Ranges
pub mod Turns
pub mod Three
pub mod Outside
pub mod Told
