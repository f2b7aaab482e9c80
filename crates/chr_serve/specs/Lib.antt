pub mod Outlooks
pub mod Refusals
pub mod Sessions
