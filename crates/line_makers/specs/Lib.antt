pub mod Chips
