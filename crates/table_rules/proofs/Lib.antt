pub mod Fitting
pub mod Bad
pub mod Demand
pub mod Failing
pub mod FactsOf
