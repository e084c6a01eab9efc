pub mod Record
pub mod Base
pub mod BaseMatrix
pub mod Digits
pub mod Broken
pub mod Formed
