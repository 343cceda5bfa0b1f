pub mod Checks
pub mod Shapes
pub mod Steps
pub mod Reading
pub mod Laws
pub mod Room
