pub mod Extending
