pub mod Marking
pub mod Starting
pub mod Finding
pub mod Changing
pub mod Numbering
