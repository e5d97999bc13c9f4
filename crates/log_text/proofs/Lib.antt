pub mod Spacing
pub mod Back
pub mod Splitting
pub mod RowLaws
mod Levels
