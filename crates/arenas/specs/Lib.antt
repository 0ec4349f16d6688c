pub mod Turns
pub mod Games
pub mod Costs
pub mod Notes
