pub mod Told
pub mod List
pub mod Run
pub mod Follows
