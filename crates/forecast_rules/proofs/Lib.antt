pub mod Demand
pub mod Facts
pub mod Other
