pub mod Lists
pub mod Told
pub mod CallLists
pub mod Made
pub mod Code
