pub mod Laws
pub mod Layout
