pub mod Reader
pub mod Proved
