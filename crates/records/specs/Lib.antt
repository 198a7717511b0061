pub mod Blanks
pub mod Cuts
pub mod Orders
pub mod OrderLaws
pub mod Registers
