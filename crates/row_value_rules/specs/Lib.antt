pub mod Total
pub mod Broken
