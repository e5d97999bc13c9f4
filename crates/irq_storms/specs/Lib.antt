pub mod Tests
pub mod Storms
pub mod Judged
pub mod Lengths
