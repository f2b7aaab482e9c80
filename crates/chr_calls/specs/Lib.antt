pub mod Turns
pub mod Tickets
pub mod Books
pub mod Calls
pub mod Batches
pub mod Runs
pub mod Headline
pub mod Moves
