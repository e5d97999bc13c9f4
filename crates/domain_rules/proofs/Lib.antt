pub mod EachAfters
pub mod Ways
pub mod Placed
mod CellRows
mod LayoutRows
