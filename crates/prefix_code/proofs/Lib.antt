pub mod Numbers
pub mod Quick
