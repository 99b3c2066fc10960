pub mod Slotted
pub mod Used
pub mod Answering
pub mod Tested
pub mod Referencing
