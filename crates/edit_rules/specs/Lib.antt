pub mod Count
pub mod State
pub mod Edit
pub mod Broken
pub mod Run
pub mod Follows
pub mod Orders
pub mod Edits
