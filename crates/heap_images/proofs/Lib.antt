pub mod PackedLemmas
pub mod SlotLemmas
pub mod HeapImageLemmas
