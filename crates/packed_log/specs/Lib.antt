pub mod Lent
pub mod Marks
pub mod Records
pub mod Rows
pub mod Settled
