pub mod Why
pub mod Inner
pub mod Theorems
