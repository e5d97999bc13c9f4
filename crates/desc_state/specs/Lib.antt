pub mod Desc
