pub mod Meaning
pub mod Calls
pub mod Bits
pub mod Points
pub mod Owed
pub mod Stored
