pub mod Listing
pub mod ListingLaws
pub mod SameLaws
pub mod LengthLaws
pub mod ListedLaws
pub mod Theorems
