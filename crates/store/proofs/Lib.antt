pub mod Columns
pub mod Laws
pub mod Signals
mod Operands
