pub mod Check
pub mod Changed
pub mod Broken
pub mod Fit
pub mod Rows
