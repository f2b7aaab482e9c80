pub mod Terms
pub mod Formulas
pub mod Members_again
pub mod Fronts
pub mod Statements
pub mod Lists
