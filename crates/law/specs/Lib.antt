pub mod Worlds
pub mod Refusals
pub mod Steps
pub mod Logs
pub mod Laws
