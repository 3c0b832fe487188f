pub mod Fields
pub mod Laws
pub mod Piles
pub mod Questions
pub mod Refusals
