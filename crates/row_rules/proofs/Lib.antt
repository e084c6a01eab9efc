pub mod Allowed
pub mod Changed
pub mod Broken
pub mod Fit
