pub mod Commas
pub mod Subscripts
pub mod Terms
pub mod Levels
pub mod Primaries
