pub mod Writer
pub mod Trip
pub mod Proved
