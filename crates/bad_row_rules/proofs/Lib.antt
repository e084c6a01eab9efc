pub mod Size
pub mod Shows
pub mod Demand
pub mod Row
pub mod Addition
pub mod Conversion
