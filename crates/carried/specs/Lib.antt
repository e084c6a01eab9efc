pub mod Tables
pub mod Contents
