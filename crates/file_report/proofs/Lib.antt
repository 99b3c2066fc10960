pub mod FindingsLemmas
pub mod FreeLemmas
pub mod HeapLemmas
pub mod ImagesLemmas
pub mod OverlapLemmas
pub mod SlotLemmas
pub mod StandsLemmas
