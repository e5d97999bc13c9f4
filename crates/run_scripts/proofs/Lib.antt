pub mod Bare
pub mod Grouping
pub mod Laying
pub mod Moving
