pub mod Turning
pub mod Served
