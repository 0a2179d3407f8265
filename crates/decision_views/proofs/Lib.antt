pub mod Agreement
pub mod Membership
