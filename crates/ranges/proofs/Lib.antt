pub mod Sums
pub mod Outbidding
pub mod Bridge
pub mod Mixing
pub mod Meeting
pub mod Contesting
pub mod Walking
pub mod Banning
