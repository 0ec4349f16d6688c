pub mod Marks
pub mod Points
pub mod Shifts
pub mod Memory
pub mod Listed
