pub mod Origins
pub mod Causes
pub mod Marks
pub mod Makers
