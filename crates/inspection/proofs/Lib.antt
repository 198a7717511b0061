pub mod Indents
pub mod Joining
pub mod Keepers
pub mod Naming
pub mod Places
pub mod Printing
pub mod Ruling
