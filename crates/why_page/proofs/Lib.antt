pub mod Lines
pub mod Rows
pub mod Paged
pub mod Proved
