pub mod Digits
pub mod LastLaws
pub mod Passing
pub mod RowWords
