pub mod FlagWords
pub mod Matched
pub mod Telling
