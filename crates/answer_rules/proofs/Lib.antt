pub mod Bits
pub mod Parts
pub mod Answer
pub mod Shown
pub mod Words
