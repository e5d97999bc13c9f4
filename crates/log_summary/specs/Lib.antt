pub mod Counted
pub mod Texts
pub mod Lasts
pub mod Gained
pub mod Standings
