pub mod Span
pub mod Overwrite
pub mod Scan
pub mod Found
pub mod Count
pub mod Once
