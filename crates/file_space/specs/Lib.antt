pub mod Placing
pub mod Space
pub mod Stretches
