pub mod Lists
pub mod Places
pub mod Levels
pub mod Index
pub mod Judged
pub mod Written
