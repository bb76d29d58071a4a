mod EachNumber
mod Held
mod Mappings
pub mod Numbered
pub mod NumberLemmas
pub mod OrderLemmas
pub mod Sizes
mod Tabled
mod Used
pub mod Values
mod VendorJoined
pub mod VendorOrder
pub mod VendorSizes
pub mod VendorValues
pub mod WhoseLemmas
pub mod WhoseVendor
pub mod Rising
