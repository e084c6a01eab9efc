pub mod Number
pub mod Section
pub mod Directory
pub mod Length
pub mod Limit
pub mod Broken
