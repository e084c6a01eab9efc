pub mod Kept
pub mod Answer
pub mod Broken
pub mod Formed
pub mod Ready
