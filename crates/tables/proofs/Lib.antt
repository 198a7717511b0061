pub mod Heads
pub mod Cells
pub mod Lists
pub mod Answering
pub mod Questions
