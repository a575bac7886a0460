pub mod Rows
pub mod Start
pub mod Cause
pub mod Counts
pub mod Body
pub mod Starting
pub mod View
pub mod Found
