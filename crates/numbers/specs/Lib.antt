pub mod Lists
pub mod Order
pub mod Scans
pub mod Laid
pub mod BigEndian
