pub mod Tray
pub mod Promise
pub mod Singles
pub mod Runs
