pub mod Slots
pub mod Counting
pub mod Ways
pub mod Agreement
pub mod Keeps
pub mod PathKinds
