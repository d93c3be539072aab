pub mod Optimum
