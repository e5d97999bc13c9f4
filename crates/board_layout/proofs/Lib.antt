pub mod Numbering
pub mod Placing
