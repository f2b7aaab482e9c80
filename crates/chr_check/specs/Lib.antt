pub mod Faults
pub mod Firings
pub mod Goals
pub mod Partners
pub mod Refusals
pub mod Replays
