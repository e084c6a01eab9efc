pub mod Leaf
pub mod Written
