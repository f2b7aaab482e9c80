pub mod Texts
pub mod Output
pub mod RunText
pub mod RunTexts
