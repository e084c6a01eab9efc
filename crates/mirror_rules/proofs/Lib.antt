pub mod Mirror
pub mod Put
pub mod Place
pub mod Deeper
