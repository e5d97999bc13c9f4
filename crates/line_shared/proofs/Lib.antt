pub mod Stepped
pub mod MetLaws
pub mod FreeLaws
