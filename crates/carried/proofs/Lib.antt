pub mod Accepted
pub mod Listed
pub mod Symmetric
pub mod Mirrored
