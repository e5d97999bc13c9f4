pub mod Left
pub mod Takes
pub mod Kinds
pub mod Who
pub mod Forms
pub mod Versions
pub mod LogOf
pub mod Adding
