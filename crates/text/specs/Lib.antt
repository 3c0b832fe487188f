pub mod Cuts
pub mod Laws
pub mod Lines
pub mod Numbers
