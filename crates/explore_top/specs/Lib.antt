pub mod Does
pub mod Ending
