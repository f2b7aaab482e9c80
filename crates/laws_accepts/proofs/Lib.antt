pub mod Runs
pub mod Distinct
pub mod Stays
pub mod ReadBack
pub mod Checked
pub mod Fixed
pub mod Seats
