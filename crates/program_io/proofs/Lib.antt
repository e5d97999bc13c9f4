pub mod Forms
mod Stated
pub mod Streams
mod Telling
