pub mod Steps
pub mod Outcome
pub mod Asked
pub mod Tells
pub mod Follows
