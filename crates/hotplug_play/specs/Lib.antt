pub mod Texts
pub mod Played
pub mod Rows
pub mod Moments
pub mod Aims
