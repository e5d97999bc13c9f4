pub mod Obstacles
