mod Cutting
pub mod Joining
mod Parting
mod Reading
pub mod Written
