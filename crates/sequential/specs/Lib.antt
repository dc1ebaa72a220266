pub mod Rows
pub mod Calls
pub mod Lent
pub mod Laws
