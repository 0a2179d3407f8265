pub mod KeyEnds
pub mod Keys
