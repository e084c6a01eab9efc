pub mod Value
pub mod Broken
pub mod Ring
