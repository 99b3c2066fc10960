pub mod ReadingLemmas
pub mod NamingLemmas
