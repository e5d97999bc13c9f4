pub mod Actions
pub mod Lists
pub mod Stamps
pub mod Kept
