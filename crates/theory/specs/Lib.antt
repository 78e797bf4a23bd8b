pub mod Says
pub mod Rule
pub mod Rank
pub mod Least
pub mod Laws
pub mod Potential
pub mod Determined
