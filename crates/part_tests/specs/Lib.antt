pub mod AskedLine
pub mod Numbers
