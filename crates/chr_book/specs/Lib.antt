pub mod Books
pub mod Firings
pub mod Given
pub mod Asked
pub mod Texts
pub mod Logs
pub mod Shots
pub mod Passed
