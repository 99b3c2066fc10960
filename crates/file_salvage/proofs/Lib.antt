pub mod BesideLemmas
pub mod EntryLemmas
pub mod LawsLemmas
pub mod PlaceLemmas
pub mod RowLemmas
pub mod ScriptLemmas
