pub mod Lines
pub mod Current
pub mod Order
pub mod Play
pub mod Kept
pub mod Hanging
pub mod Orders
