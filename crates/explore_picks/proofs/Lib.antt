mod Rows
mod Printable
mod MadePlays
mod Bytes
mod Stating
mod Named
pub mod Allowed
pub mod Lawful
pub mod PickedMoves
pub mod Beginning
pub mod Alone
