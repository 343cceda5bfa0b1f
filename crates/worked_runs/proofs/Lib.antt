pub mod Playing
pub mod Played
pub mod Databases
pub mod Answered
pub mod Reading
pub mod Worked
