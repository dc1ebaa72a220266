pub mod Costs
pub mod Refusing
pub mod Records
pub mod Guards
pub mod Moving
