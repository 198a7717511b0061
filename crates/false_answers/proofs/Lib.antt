pub mod Refuting
pub mod Sentences
pub mod OverP
