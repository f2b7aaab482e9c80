pub mod Words
pub mod Rows
pub mod Keeping
pub mod NextBeside
pub mod OneNext
pub mod Turns
