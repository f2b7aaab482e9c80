pub mod Replayed
pub mod Checked
pub mod Stores
pub mod Compared
