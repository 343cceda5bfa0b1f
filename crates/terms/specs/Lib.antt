pub mod Subscripts
pub mod Expressions
