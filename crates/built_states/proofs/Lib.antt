pub mod Growing
pub mod Answering
pub mod Writing
pub mod OneWay
