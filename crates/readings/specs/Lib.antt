pub mod Trees
pub mod Runs
