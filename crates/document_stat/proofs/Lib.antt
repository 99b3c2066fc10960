pub mod Adding
pub mod Files
pub mod HeapChunks
pub mod ImageBodies
pub mod Tallies
pub mod ValidBlocks
