pub mod Visits
pub mod LinesOfNotes
pub mod Moved
pub mod Closing
pub mod Onward
pub mod Placing
pub mod Saying
