pub mod Left
pub mod Wanted
