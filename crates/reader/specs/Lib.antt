pub mod Holding
pub mod Readings
pub mod Refusals
pub mod Replies
