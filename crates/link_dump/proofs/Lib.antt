pub mod AloneLaws
pub mod DumpedLaws
pub mod FilledLaws
pub mod HostLaws
pub mod InvariantLaws
pub mod Repeats
pub mod RepeatsLaws
pub mod Theorem
