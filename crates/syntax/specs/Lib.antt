pub mod Terms
pub mod Drafts
pub mod Reading
pub mod Judgement
