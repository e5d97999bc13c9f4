pub mod Alike
pub mod Stamping
pub mod Walking
pub mod Bits
