pub mod Outcome
pub mod Stated
pub mod Check
pub mod Rule
pub mod Exact
pub mod Unless
pub mod Passed
pub mod Answer
