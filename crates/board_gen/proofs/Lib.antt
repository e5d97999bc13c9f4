pub mod Counting
pub mod Growing
pub mod NextLine
pub mod Owning
pub mod Planning
