pub mod Worked
pub mod Counting
pub mod Granules
pub mod Judging
pub mod Paging
pub mod Demands
pub mod Entries
pub mod EachRefusal
