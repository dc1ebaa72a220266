pub mod Trees
pub mod Opens
pub mod Runs
