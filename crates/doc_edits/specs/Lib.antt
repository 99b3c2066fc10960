pub mod Planning
pub mod Found
pub mod Room
pub mod Building
pub mod LookUps
pub mod LentRuns
pub mod Marking
pub mod RunPlans
