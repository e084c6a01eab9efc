pub mod Element
pub mod Lines
