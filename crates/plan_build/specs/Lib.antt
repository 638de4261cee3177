pub mod Build
pub mod Inner
pub mod Theorems
