pub mod Holdings
pub mod Replies
