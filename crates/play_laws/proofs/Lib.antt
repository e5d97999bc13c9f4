pub mod Listed
pub mod NobodyHangs
pub mod Moves
pub mod Rest
pub mod Hanging
