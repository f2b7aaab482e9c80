pub mod Rows
pub mod Columns
pub mod Alone
pub mod Kept
pub mod Settings
pub mod Sheets
pub mod Beside
