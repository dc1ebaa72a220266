pub mod Refusing
pub mod Lent
pub mod Chains
