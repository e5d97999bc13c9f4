pub mod EventWords
pub mod Items
pub mod LineWords
pub mod OneCommand
pub mod Ranges
