pub mod Writer
pub mod Inner
pub mod Theorems
