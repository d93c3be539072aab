pub mod Costs
pub mod Ascent
pub mod Units
