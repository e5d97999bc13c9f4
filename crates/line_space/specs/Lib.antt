pub mod Reading
pub mod Kept
pub mod Stepping
pub mod Found
