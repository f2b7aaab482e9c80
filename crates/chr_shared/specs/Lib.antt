pub mod Lines
pub mod Readings
pub mod Installs
pub mod Sleepers
