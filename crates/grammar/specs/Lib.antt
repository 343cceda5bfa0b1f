pub mod Sorts
pub mod Rules
pub mod Trees
pub mod Reading
pub mod Drafts
pub mod Room
pub mod Promise
pub mod Laws
