pub mod Report
pub mod Came
pub mod Given
pub mod Ran
