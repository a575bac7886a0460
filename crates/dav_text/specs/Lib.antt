pub mod Blanks
pub mod Digits
pub mod Escape
pub mod Method
pub mod Path
pub mod Reading
pub mod Tag
