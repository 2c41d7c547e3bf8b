pub mod Copying
pub mod Marking
pub mod Owing
pub mod Stepping
pub mod Trimming
