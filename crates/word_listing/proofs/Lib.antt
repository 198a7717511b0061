pub mod Going
pub mod Reporting
