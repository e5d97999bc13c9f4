pub mod Placed
pub mod Knows
pub mod Rule
pub mod Steps
pub mod Passes
