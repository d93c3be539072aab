pub mod EightRows
