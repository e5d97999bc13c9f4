pub mod Headline
pub mod Report
pub mod Played
