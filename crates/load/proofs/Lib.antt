pub mod Closings
pub mod Passes
