pub mod Members
pub mod Sizes
pub mod Grows
pub mod Closing
pub mod Exacts
pub mod Picks
pub mod Fires
