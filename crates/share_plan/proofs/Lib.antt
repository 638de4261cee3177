pub mod Laws
pub mod Proved
