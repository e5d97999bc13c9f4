pub mod Short
pub mod Made
pub mod Chains
pub mod Sleeps
