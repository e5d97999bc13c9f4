pub mod Starting
pub mod Serving
pub mod FactRows
