pub mod Atoms
pub mod Goals
pub mod Reasons
pub mod Headings
pub mod Lines
pub mod Graphs
pub mod Explanations
pub mod ExplainTexts
