pub mod KeyLaws
pub mod Table
pub mod Walks
pub mod Marks
pub mod Stored
pub mod Keeping
pub mod Views
