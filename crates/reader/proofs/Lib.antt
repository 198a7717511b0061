pub mod Calling
pub mod Forests
pub mod Passing
pub mod Verdicts
