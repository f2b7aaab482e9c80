pub mod Devices
pub mod Lines
pub mod Parsing
pub mod Layout
pub mod Commands
pub mod Spelling
pub mod Replies
pub mod Sessions
