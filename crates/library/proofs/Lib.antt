pub mod Calling
pub mod Multiplying
