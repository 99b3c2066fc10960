pub mod TestedLemmas
pub mod SlottedLemmas
pub mod UsedLemmas
