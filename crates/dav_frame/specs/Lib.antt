pub mod Front
pub mod Framing
pub mod Reading
pub mod Fields
pub mod Request
