pub mod Printing
pub mod Passing
pub mod Answering
pub mod Gathering
pub mod Tables
pub mod Deciding
pub mod Agreeing
