pub mod Seen
pub mod Runs
pub mod Answers
pub mod Hearing
pub mod Memory
pub mod Queries
pub mod Given
pub mod Room
