pub mod Outcomes
pub mod Stretch
pub mod Recording
pub mod Imaging
pub mod Replay
