pub mod Faults
pub mod Laws
pub mod Letters
pub mod Order
