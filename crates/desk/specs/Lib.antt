pub mod Table
pub mod Places
pub mod Reason
pub mod Request
pub mod Call
pub mod Story
pub mod Theorems
