pub mod Quick
pub mod Searched
