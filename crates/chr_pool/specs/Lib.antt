pub mod Accounts
pub mod Handles
pub mod Hands
pub mod Inlets
pub mod OwnDeques
pub mod Pools
pub mod NewDeques
