pub mod Outcome
pub mod Check
pub mod Rule
pub mod Exit
pub mod Unless
pub mod Numbers
pub mod Passed
pub mod Answer
