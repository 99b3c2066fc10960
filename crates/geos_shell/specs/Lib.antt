pub mod Files
pub mod Manners
pub mod Outcome
pub mod Program
pub mod Progress
pub mod RunFaults
pub mod Runs
pub mod Streams
