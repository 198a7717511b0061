pub mod Entries
pub mod Growth
pub mod Closures
pub mod Counting
pub mod Picking
