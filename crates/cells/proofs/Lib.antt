mod Letters
mod Parts
mod Patterns
mod Places
