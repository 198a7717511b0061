pub mod Following
pub mod Going
pub mod Growing
pub mod Leading
pub mod Pairing
