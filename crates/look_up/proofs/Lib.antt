pub mod Comparison
pub mod Search
