mod Turned
mod Others
mod Parts
mod Printable
mod Finished
pub mod Told
