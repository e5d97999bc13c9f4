pub mod RowByRow
pub mod Scenario
pub mod Handed
pub mod Answered
