pub mod Open
pub mod Made
pub mod Listed
pub mod Stray
pub mod Passed
pub mod Lending
