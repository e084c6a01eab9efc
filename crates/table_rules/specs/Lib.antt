pub mod Pairs
pub mod Check
pub mod Broken
pub mod FactsOf
