pub mod Reading
pub mod Refusals
pub mod ErrorRows
pub mod Arguments
pub mod Streams
