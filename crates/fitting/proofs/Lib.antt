pub mod ShortNames
pub mod ShortLines
