pub mod Fields
pub mod Hexadecimal
pub mod Pushed
