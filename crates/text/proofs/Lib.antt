pub mod Laws
pub mod Reading
pub mod Lexing
pub mod Computed
pub mod Worked
