pub mod Order
pub mod Each
pub mod Laws
