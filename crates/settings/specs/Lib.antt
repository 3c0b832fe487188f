pub mod Layered
pub mod Sample
