pub mod PathsInUse
pub mod Hierarchies
