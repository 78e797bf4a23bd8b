pub mod Parts
pub mod Sound
pub mod Texts
pub mod Complete
pub mod Exact
