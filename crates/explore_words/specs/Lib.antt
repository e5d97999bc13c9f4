pub mod Joining
pub mod Rows
pub mod Words
