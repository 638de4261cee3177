pub mod Ticks
pub mod Theorems
pub mod Inner
