pub mod Heads
pub mod Faults
pub mod Lists
pub mod Trying
pub mod Passing
pub mod Meaning
pub mod Held
