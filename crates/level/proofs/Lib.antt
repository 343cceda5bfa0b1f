pub mod Laws
pub mod WordBits
