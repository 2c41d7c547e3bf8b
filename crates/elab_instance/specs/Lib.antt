pub mod Given
pub mod Known
pub mod Tables
pub mod Variables
