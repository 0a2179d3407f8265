pub mod Keys
pub mod Sound
pub mod SoundWalks
pub mod Judged
pub mod Tables
