pub mod Element
pub mod Listing
