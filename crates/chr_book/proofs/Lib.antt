pub mod Turns
pub mod Fired
pub mod Sheets
pub mod Logs
pub mod GoingOn
