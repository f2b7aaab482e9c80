pub mod Scoped
pub mod Under
pub mod Valued
pub mod Fixed
pub mod Bindings
pub mod Steps
pub mod Matched
pub mod Whole
