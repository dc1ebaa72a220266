pub mod Watching
pub mod Nearest
pub mod Faults
pub mod First
pub mod Sentences
pub mod Promise
