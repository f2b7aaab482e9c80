pub mod Arguments
pub mod Meeting
pub mod Standing
pub mod Trees
