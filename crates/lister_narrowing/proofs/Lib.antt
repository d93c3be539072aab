pub mod Tightening
pub mod Scanning
