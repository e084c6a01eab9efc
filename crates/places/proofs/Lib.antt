pub mod Loop
pub mod Tried
