pub mod LogLemmas
pub mod RecordLemmas
pub mod RowLemmas
