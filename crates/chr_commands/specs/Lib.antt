pub mod Endings
pub mod Files
pub mod Parts
pub mod Outputs
pub mod Runs
pub mod Checks
pub mod Sessions
