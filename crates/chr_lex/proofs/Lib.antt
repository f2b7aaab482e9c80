pub mod Lexing
pub mod Replaced
pub mod Cutting
