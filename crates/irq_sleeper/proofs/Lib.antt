pub mod Marking
pub mod Underway
pub mod Phased
pub mod Asking
pub mod Taking
pub mod Hearing
pub mod Wanting
