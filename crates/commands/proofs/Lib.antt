pub mod Handling
pub mod EightRows
