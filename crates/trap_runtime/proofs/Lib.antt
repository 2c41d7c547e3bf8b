pub mod Copying
pub mod Displaying
