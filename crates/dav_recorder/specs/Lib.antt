pub mod Stands
pub mod Files
pub mod Calls
pub mod Recovers
pub mod Opening
pub mod Due
pub mod Survives
pub mod Planned
