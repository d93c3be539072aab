pub mod Valuing
pub mod Parting
pub mod Following
pub mod FirstCover
pub mod Optimality
pub mod Limiting
