pub mod Orders
pub mod Plans
pub mod Places
pub mod Laws
