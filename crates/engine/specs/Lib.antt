pub mod Steps
pub mod Jobs
pub mod RowBlocks
