pub mod Levels
pub mod Paths
pub mod Domains
pub mod Layout
