pub mod Lines
pub mod Proved
