pub mod Curve
pub mod Inner
pub mod Theorems
