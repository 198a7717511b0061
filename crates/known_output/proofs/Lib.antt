pub mod Passing
pub mod Sheets
pub mod Building
pub mod Theorem
pub mod Output
