pub mod Left
pub mod Moves
pub mod Few
