pub mod Refusals
pub mod Heads
pub mod Sizes
pub mod Uses
pub mod Rows
pub mod Loading
