pub mod Word
pub mod Fault
pub mod Answer
