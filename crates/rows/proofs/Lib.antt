pub mod Sets
pub mod Unmet
pub mod Nodes
pub mod Gathering
pub mod Reducing
pub mod Bridge
pub mod Same
pub mod Making
