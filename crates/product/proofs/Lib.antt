pub mod Putting
pub mod Joining
pub mod Inserting
pub mod Sorted
pub mod Cells
pub mod Turns
