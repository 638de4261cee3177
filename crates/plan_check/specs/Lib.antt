pub mod Check
pub mod Theorems
