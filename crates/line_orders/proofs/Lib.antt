pub mod NeverFull
