pub mod BitCounts
pub mod Takings
pub mod Namings
pub mod Slots
pub mod Bounds
pub mod HeldRows
pub mod Parts
