pub mod Faults
pub mod Parsed
pub mod Laws
pub mod Inner
