pub mod Only
pub mod Precondition
pub mod Seen
pub mod Retry
pub mod Outcome
