pub mod Tables
pub mod Proved
