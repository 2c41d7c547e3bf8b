pub mod Counts
pub mod Calls
pub mod Displays
pub mod FileCalls
pub mod Next
