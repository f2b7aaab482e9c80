pub mod Plain
pub mod Comments
pub mod Items
pub mod Marks
pub mod Reading
pub mod Tokens
pub mod Lexing
pub mod Cutting
