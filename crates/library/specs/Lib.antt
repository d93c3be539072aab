pub mod Library
pub mod Multiplying
