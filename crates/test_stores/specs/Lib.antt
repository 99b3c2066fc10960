pub mod Crashed
pub mod Fuse
pub mod History
pub mod Pending
pub mod Pieces
