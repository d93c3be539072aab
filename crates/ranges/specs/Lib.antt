pub mod Listed
pub mod Rivals
