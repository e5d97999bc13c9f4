pub mod Stepping
pub mod Meeting
