pub mod Faults
pub mod Told
pub mod Reads
pub mod Writes
pub mod MemStreams
pub mod StdStreams
pub mod Whole
