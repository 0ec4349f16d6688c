pub mod Stepping
pub mod Writing
pub mod Sheets
pub mod Replying
pub mod Choosing
pub mod Telling
