pub mod Takers
pub mod Lowest
pub mod Queries
pub mod Steps
