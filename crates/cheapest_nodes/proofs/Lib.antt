pub mod Choosing
pub mod Restricting
pub mod Thinning
pub mod Closing
pub mod Planning
