pub mod Codes
pub mod Rows
pub mod Tables
pub mod Saying
pub mod Expressions
pub mod Soundness
