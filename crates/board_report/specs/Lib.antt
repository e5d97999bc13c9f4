pub mod Headline
pub mod Reporting
pub mod Moving
pub mod Rows
pub mod Summable
pub mod Totals
pub mod Hung
