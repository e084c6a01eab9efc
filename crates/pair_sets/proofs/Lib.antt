pub mod Pass
pub mod Runs
