pub mod Faults
pub mod Promise
pub mod Laws
