pub mod Keepings
pub mod Openings
