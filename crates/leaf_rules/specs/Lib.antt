pub mod Leaf
pub mod Given
pub mod Window
