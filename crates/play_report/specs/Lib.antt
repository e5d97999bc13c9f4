pub mod Failing
pub mod Ordered
pub mod Answers
pub mod Printing
pub mod Report
