pub mod AsideLemmas
pub mod ScopeLemmas
pub mod TagLemmas
pub mod RunLemmas
pub mod OuterLemmas
pub mod EndLemmas
pub mod MarkupLemmas
pub mod StretchLemmas
