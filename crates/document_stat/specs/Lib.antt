pub mod Arrays
pub mod Counted
pub mod Files
pub mod Tallies
