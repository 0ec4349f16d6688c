pub mod Turning
pub mod Seating
pub mod Fitting
pub mod Running
pub mod Serving
