pub mod First
pub mod Numbers
pub mod Trees
pub mod Processors
pub mod Keeping
pub mod Searching
pub mod Lowest
pub mod Same
