pub mod Slots
pub mod Staying
pub mod Agree
pub mod Midturn
pub mod Mid
pub mod Settling
pub mod Searching
