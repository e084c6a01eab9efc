pub mod Bits
pub mod Weights
