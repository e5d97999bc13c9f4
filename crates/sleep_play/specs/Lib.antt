pub mod Rows
pub mod Headline
pub mod Played
