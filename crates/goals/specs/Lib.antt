pub mod Sets
pub mod Chains
pub mod Planned
