pub mod Verdict
pub mod Theorems
pub mod Inner
