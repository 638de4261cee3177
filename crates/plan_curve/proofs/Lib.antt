pub mod Worst
pub mod Lowered
pub mod Frames
pub mod Rounds
pub mod Answers
