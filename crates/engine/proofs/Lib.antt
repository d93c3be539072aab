pub mod KeptBlocks
pub mod Dispatching
pub mod Running
pub mod RowCommands
pub mod RowBlocks
