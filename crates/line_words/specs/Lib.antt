pub mod Words
pub mod Told
pub mod Node
pub mod Reading
pub mod Again
pub mod Scripts
pub mod Tables
pub mod Runs
