pub mod Output
pub mod Promise
pub mod Rows
pub mod Formula
pub mod Found
