pub mod Sheets
pub mod Output
