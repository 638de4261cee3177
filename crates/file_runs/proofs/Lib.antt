pub mod Ticks
pub mod Good
pub mod Proved
pub mod Loaded
