pub mod Derived
pub mod Inner
