mod Counts
mod EdgeWalk
mod Linked
mod Somewhere
mod Holding
pub mod Told
mod Among
mod InWay
mod Reaching
mod LowestHung
