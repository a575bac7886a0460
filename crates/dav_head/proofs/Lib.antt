pub mod FeedLemmas
pub mod KeepLemmas
pub mod FieldLemmas
pub mod BlankLemmas
pub mod ElementLemmas
pub mod LineFronts
pub mod LineLemmas
