pub mod Asking
pub mod Fielding
pub mod Piling
