pub mod Looked
pub mod Line
