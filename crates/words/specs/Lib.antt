pub mod Codes
pub mod Spelling
pub mod Laws
pub mod Reading
pub mod Inner
pub mod Faults
