pub mod Numbers
pub mod Checked
pub mod Refused
