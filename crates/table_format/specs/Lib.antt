pub mod ItemSets
pub mod Tables
pub mod Walks
pub mod Sheets
pub mod Breaches
pub mod Example
pub mod Statements
