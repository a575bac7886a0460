pub mod Disk
pub mod Record
pub mod View
pub mod Image
pub mod Events
pub mod Note
pub mod Modelled
