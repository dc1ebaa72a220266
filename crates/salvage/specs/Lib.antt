pub mod Met
pub mod Reasons
pub mod Salvage
pub mod Promise
