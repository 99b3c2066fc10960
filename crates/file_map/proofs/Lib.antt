pub mod FaultLemmas
pub mod MapLemmas
pub mod PartLemmas
pub mod RowLemmas
pub mod TableLemmas
pub mod TextLemmas
pub mod WalkLemmas
