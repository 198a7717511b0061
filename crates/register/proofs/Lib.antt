pub mod Shifting
pub mod Climbing
pub mod Growing
