pub mod Sections
pub mod Stated
pub mod FaultsAfter
pub mod TextOf
pub mod Sound
pub mod OfVersion
