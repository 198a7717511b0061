pub mod Heads
pub mod Listings
pub mod Names
pub mod Pieces
pub mod Reports
pub mod Rules
