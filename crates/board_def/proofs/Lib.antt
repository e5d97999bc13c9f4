pub mod Answering
mod Defining
pub mod Finds
pub mod Grows
mod Kept
pub mod NameBack
mod Owners
pub mod Paths
pub mod Rising
pub mod RunRules
mod Tabled
pub mod Threads
pub mod Unnaming
pub mod Validity
mod Walks
mod LayoutRows
