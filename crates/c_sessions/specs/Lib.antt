pub mod Codes
pub mod Files
pub mod Keeping
