pub mod Coverage
pub mod Check
pub mod Broken
pub mod Formed
