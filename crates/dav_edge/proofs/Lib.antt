pub mod Connecting
pub mod Numbering
pub mod Pieces
pub mod Sending
pub mod Storing
pub mod Taking
pub mod Written
