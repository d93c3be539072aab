pub mod Halves
pub mod Legality
pub mod Vertices
pub mod Uses
