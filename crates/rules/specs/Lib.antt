pub mod Limits
pub mod Walk
pub mod Table
pub mod Terms
pub mod Filling
pub mod Refusals
pub mod Inner
