pub mod RowLemmas
pub mod Adding
pub mod FetchLemmas
pub mod ReadingLemmas
pub mod StartLemmas
