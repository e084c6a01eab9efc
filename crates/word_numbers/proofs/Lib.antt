pub mod Shift
pub mod Filled
