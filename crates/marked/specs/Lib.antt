pub mod Degrees
pub mod Exercises
