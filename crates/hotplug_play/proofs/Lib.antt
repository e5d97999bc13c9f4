mod OfBoard
mod Placings
mod Finished
mod Settled
mod Finding
pub mod Moments
pub mod Aiming
mod Moving
mod Scripts
pub mod Aims
