pub mod Covers
pub mod Reduction
pub mod Keeping
