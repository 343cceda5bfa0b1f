pub mod Targets
pub mod Strings
pub mod Nodes
pub mod Steps
pub mod Faults
pub mod Room
pub mod Inner
pub mod Laws
