pub mod Bytes
pub mod Contents
pub mod Inner
