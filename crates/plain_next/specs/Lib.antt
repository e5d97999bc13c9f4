pub mod Calls
pub mod MaskTable
pub mod Passes
pub mod Tests
pub mod Hanging
