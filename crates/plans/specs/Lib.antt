pub mod Sides
pub mod Listing
pub mod Drawing
pub mod Replying
