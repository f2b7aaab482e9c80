pub mod Rules
pub mod ViewLists
pub mod Settles
pub mod Makings
