pub mod Best
pub mod Reading
