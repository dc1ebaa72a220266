pub mod Halves
pub mod Enters
pub mod Cuts
