pub mod OrderLemmas
pub mod OrderSteps
pub mod SeatLemmas
