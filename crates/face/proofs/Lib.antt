pub mod Indexes
pub mod Listing
pub mod SameParts
