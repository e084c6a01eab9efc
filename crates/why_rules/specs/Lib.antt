pub mod Rule
pub mod Why
