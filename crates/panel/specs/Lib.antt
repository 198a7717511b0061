pub mod Answers
pub mod Faults
pub mod Gathered
pub mod Lines
pub mod Outcomes
