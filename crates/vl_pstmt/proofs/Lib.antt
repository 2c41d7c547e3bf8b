pub mod Passing
pub mod Opening
pub mod Windows
pub mod CaseItems
