pub mod Cells
pub mod Fill
pub mod Nands
pub mod Patterns
pub mod Read
pub mod Laws
