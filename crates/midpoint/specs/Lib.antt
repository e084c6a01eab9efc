pub mod Half
pub mod Halved
pub mod Midpoint
