pub mod OneAnswer
mod Telling
