pub mod Findings
pub mod Checked
pub mod Reading
pub mod Pages
pub mod Texts
