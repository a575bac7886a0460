pub mod Bytes
pub mod Characters
pub mod References
pub mod Names
pub mod Words
pub mod Document
pub mod Machine
