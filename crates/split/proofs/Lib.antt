pub mod Laid
pub mod Entries
pub mod Taken
pub mod Halves
pub mod Entered
pub mod Shared
pub mod Divided
