pub mod Limit
pub mod Total
pub mod Broken
