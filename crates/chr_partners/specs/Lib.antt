pub mod Partners
pub mod Atoms
pub mod Hashes
pub mod Homes
