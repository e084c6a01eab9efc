pub mod Place
pub mod Coverage
pub mod Strings
pub mod Stage
pub mod Broken
pub mod Formed
