pub mod Heads
pub mod Explanations
