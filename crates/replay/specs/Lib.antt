pub mod Chains
pub mod Pairs
pub mod Statements
pub mod Steps
