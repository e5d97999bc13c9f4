pub mod Paths
pub mod Packed
pub mod Rows
pub mod Firsts
pub mod Growing
pub mod Seen
pub mod Steps
