pub mod Accounts
pub mod Versions
pub mod Holds
