pub mod Candidates
pub mod Changes
pub mod Matrix
pub mod Sums
pub mod BlockSums
pub mod Products
pub mod Uses
