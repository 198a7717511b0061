pub mod Listing
pub mod Sets
pub mod Placing
pub mod Tables
pub mod Refusals
pub mod Holding
pub mod Words
