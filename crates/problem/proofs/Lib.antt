pub mod Refusing
pub mod Preparing
pub mod Keeping
pub mod Moving
