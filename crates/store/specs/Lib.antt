pub mod Faults
pub mod Laws
pub mod Meaning
pub mod Parts
pub mod Place
pub mod Settle
