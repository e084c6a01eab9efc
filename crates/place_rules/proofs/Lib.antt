pub mod Part
pub mod Place
pub mod Counted
