pub mod Laws
pub mod Whole
pub mod Examples
pub mod Rows
pub mod Small
pub mod Formula
pub mod Found
pub mod Starting
