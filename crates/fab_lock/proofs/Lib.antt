mod Growth
mod Joined
mod Lists
mod Others
mod Raising
mod Seats
mod Taking
mod Words
