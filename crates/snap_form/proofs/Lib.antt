pub mod FieldLaws
pub mod Formed
pub mod Loops
pub mod Numbers
pub mod Parts
pub mod Whole
