pub mod Costing
pub mod Bounding
pub mod Ascending
pub mod Measuring
