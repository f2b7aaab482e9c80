pub mod Partners
pub mod Found
pub mod Picks
