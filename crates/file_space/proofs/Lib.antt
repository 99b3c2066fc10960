pub mod PlacingLemmas
pub mod SpaceLemmas
pub mod StretchLemmas
