pub mod Changes
pub mod Ends
