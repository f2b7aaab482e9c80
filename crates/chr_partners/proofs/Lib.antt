pub mod Holding
pub mod Listing
pub mod Completing
