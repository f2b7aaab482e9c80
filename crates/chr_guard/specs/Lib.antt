pub mod Values
pub mod Bindings
pub mod Instances
pub mod Matching
pub mod Terms
pub mod Settled
