pub mod Sight
pub mod Params
pub mod Blocks
pub mod Inside
pub mod Parts
pub mod Older
