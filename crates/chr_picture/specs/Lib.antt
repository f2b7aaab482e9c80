pub mod Words
pub mod Pictures
pub mod Layouts
pub mod Svg
pub mod Parts
pub mod Texts
