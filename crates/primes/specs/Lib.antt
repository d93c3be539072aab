pub mod Numbers
pub mod Blocks
pub mod Literals
pub mod Parts
pub mod Primes
