pub mod Link
pub mod Counted
pub mod Bounded
pub mod Taken
pub mod MachineEnd
pub mod Reset
pub mod Unrefused
