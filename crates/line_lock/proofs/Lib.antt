pub mod Actors
pub mod Placing
pub mod Passing
pub mod Turning
pub mod Closing
pub mod Opening
