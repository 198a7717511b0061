pub mod Built
pub mod Building
pub mod Meaning
pub mod Writing
pub mod Once
