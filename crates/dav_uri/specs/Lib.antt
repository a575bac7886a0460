pub mod Follow
pub mod Target
pub mod Url
