pub mod HostTime
