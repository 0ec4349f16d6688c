mod Counting
mod Entering
mod Settling
mod Reporting
mod Lines
