pub mod Beginning
pub mod Pieces
