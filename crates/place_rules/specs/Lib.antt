pub mod Place
pub mod Helpers
