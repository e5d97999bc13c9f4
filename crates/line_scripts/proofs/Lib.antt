mod RowSteps
pub mod LastEntry
mod FirstRow
mod Places
