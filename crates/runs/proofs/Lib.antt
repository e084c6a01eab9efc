pub mod Places
pub mod Keys
pub mod Exact
