pub mod Output
pub mod CheckTexts
pub mod CheckParts
