pub mod Table
pub mod Mirrored
pub mod TableFacts
pub mod Check
pub mod Broken
pub mod Formed
pub mod Ready
