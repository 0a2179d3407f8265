-- Laws of the call's definition that the proofs of the functions share, and the theorem about its numbers.
pub mod CCall
pub mod Listed
