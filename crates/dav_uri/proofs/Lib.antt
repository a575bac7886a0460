pub mod HostBytes
