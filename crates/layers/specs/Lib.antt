pub mod Answers
pub mod Laws
pub mod Layers
pub mod Limits
pub mod Scaling
