pub mod Accounts
pub mod Alike
pub mod Lines
