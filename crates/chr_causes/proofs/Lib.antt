pub mod OneOrigin
pub mod Places
pub mod Marked
pub mod Tracing
