pub mod Slots
pub mod Chaining
pub mod Indexes
