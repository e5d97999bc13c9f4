pub mod Unpacking
pub mod SameEntries
