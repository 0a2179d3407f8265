pub mod Sets
pub mod Handed
pub mod Made
pub mod Promise
pub mod AllOrNone
