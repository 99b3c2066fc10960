pub mod Help
pub mod Making
pub mod Printing
pub mod Reading
pub mod Texts
