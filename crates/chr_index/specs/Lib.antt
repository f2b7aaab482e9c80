pub mod Buckets
pub mod Walked
pub mod Chains
pub mod Indexed
