pub mod Cursors
pub mod Faults
pub mod Lines
pub mod NameLines
pub mod Promise
