pub mod PathLemmas
pub mod ReadLemmas
pub mod RoundTrip
pub mod TagLemmas
pub mod TypedPath
