pub mod Values
pub mod Rules
pub mod Entries
