pub mod Put
pub mod Text
pub mod Decimal
pub mod Refused
pub mod Theorems
pub mod Inner
