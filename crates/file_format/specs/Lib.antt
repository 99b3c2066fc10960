pub mod Damage
pub mod File
pub mod FileLaws
pub mod Kinds
pub mod Listed
pub mod Reading
pub mod Slots
