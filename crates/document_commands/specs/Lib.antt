pub mod Arguments
pub mod Requests
