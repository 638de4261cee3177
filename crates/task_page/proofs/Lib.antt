pub mod Rows
pub mod Tight
pub mod Fails
pub mod Listed
pub mod Proved
