pub mod Demand
pub mod Ring
