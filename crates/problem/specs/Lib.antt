pub mod Problems
pub mod Refusing
pub mod Matrix
