pub mod Canon
pub mod Made
pub mod Places
pub mod Futures
