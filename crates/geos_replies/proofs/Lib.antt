pub mod Calls
pub mod FileFaults
pub mod Frames
pub mod Refusals
pub mod Replying
pub mod Serving
pub mod InMemory
