pub mod Entries
pub mod Wholes
pub mod Candidates
