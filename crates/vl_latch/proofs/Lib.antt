pub mod Testing
pub mod Naming
pub mod Judging
pub mod Firsts
pub mod Designs
pub mod Rounds
