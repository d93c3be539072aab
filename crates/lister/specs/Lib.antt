pub mod Lister
pub mod Levels
pub mod Selected
