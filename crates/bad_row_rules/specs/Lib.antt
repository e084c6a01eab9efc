pub mod Shows
pub mod Broken
pub mod RowOf
pub mod BadRow
