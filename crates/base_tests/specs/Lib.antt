pub mod Minors
