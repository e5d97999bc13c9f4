pub mod AskedLine
