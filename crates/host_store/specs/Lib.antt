pub mod Host
pub mod HostSystem
pub mod System
pub mod Unopened
