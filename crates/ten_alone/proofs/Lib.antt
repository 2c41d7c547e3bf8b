mod Ending
mod Starting
