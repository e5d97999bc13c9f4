pub mod Rows
pub mod Small
pub mod Stated
pub mod Printed
pub mod Made
