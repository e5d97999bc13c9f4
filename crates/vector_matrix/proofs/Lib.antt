pub mod Listing
pub mod Adding
pub mod Bits
pub mod Keeping
pub mod Stepping
pub mod Claiming
pub mod Ends
