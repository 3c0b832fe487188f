pub mod Axes
pub mod Bounds
pub mod Clamping
pub mod Faults
pub mod Finding
pub mod Meaning
pub mod Offers
