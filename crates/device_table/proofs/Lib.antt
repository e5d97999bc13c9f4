pub mod Tables
pub mod Weights
pub mod Steps
pub mod Ranking
pub mod Words
pub mod Lowest
pub mod Placing
pub mod Filling
