pub mod Ends
pub mod Outs
pub mod Placing
pub mod Walking
