pub mod Performed
pub mod Printed
pub mod Described
pub mod Session
