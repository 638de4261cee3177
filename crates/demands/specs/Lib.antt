pub mod Document01
pub mod GranuleOne
pub mod Demands
pub mod Entries
pub mod EachRefusal
