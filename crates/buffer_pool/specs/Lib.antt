pub mod Lends
pub mod Orders
pub mod Places
pub mod Seats
