pub mod Entries
pub mod Judging
pub mod Places
pub mod ScaledAnswers
pub mod Unchanging
