pub mod Sizes
pub mod Orders
pub mod Answers
