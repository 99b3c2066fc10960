pub mod Values
pub mod Handles
pub mod HandleCalls
pub mod LendingLemmas
pub mod Opening
pub mod Given
pub mod LookUps
pub mod Windows
