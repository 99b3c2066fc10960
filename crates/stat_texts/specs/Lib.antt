pub mod Columns
pub mod Json
