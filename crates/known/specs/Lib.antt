pub mod Automata
pub mod Readings
pub mod Samples
pub mod Results
