pub mod Deciding
pub mod Shapes
pub mod Roots
pub mod Fronts
pub mod Layouts
pub mod Readings
pub mod Sides
pub mod Operands
