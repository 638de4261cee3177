pub mod Page
pub mod Inner
pub mod Theorems
