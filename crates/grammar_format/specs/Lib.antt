pub mod Sheets
pub mod Keeping
pub mod Fields
pub mod Breaches
pub mod Statements
