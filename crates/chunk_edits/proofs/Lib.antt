pub mod CarryingLemmas
pub mod FoundLemmas
pub mod PatchingLemmas
pub mod RebasingLemmas
pub mod SpanLemmas
pub mod SplicingLemmas
