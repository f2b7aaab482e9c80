pub mod Grouped
pub mod Lists
pub mod Known
pub mod ExplainedTexts
