pub mod Tables
pub mod Splits
pub mod Rows
