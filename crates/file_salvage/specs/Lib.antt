pub mod Places
pub mod Rows
pub mod Entries
pub mod Salvaged
pub mod Laws
