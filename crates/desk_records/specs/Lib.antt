pub mod Sums
pub mod Folds
