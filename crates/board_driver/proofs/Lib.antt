pub mod Last
