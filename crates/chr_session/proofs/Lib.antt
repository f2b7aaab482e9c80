pub mod Causes
pub mod Passed
pub mod Words
pub mod FirstSpelled
pub mod Written
pub mod Underway
pub mod LaidOut
