pub mod Sum
pub mod Input
pub mod Add
pub mod Calls
pub mod Broken
pub mod Combined
pub mod Reach
pub mod Mirrored
