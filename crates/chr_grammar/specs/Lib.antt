pub mod Parsed
pub mod Views
pub mod Parsing
pub mod Spelling
