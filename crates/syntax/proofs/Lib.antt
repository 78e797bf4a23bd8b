pub mod Steps
pub mod Judge
pub mod Single
