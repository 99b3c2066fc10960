pub mod Blocks
pub mod Differences
pub mod Diffs
pub mod Faults
pub mod Lines
pub mod Merging
