pub mod CleanTags
pub mod SeenLemmas
