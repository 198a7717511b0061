pub mod Rows
pub mod Grammars
pub mod Nexts
pub mod Passes
pub mod Completing
pub mod Stepping
