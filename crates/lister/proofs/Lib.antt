pub mod Tree
pub mod Climbing
pub mod Listing
pub mod Leveling
pub mod Selecting
