pub mod Checked
pub mod Compared
pub mod Joined
pub mod Looked
pub mod OtherLemmas
pub mod PageLemmas
pub mod Restored
pub mod SalvageLemmas
