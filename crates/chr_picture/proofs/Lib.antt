pub mod Texts
pub mod Drawn
