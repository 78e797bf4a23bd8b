pub mod Holds
pub mod Reads
pub mod Ticks
pub mod Searches
pub mod Loops
