pub mod Rows
pub mod Changes
