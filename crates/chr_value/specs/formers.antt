pub mod compound
