pub mod Words
pub mod EntryWords
pub mod Rows
pub mod Spaced
pub mod LayoutRows
pub mod Formed
pub mod Kept
