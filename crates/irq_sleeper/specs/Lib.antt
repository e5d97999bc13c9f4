pub mod Watching
pub mod Seen
pub mod Steps
pub mod Hearing
pub mod Wanted
