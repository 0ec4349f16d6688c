pub mod Shows
pub mod Planning
pub mod Plays
