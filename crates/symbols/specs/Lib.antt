pub mod Names
pub mod Items
pub mod Widths
pub mod References
