pub mod Puts
pub mod Digits
pub mod Lines
pub mod Decimal
pub mod Examples
pub mod Names
