pub mod OneAnswer
pub mod Waits
pub mod Rooms
