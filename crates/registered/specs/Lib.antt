pub mod Deeds
pub mod Kept
pub mod Listed
pub mod Costs
pub mod Fresh
