pub mod Chain
mod Hex
mod Labels
