mod Ends
mod Listed
mod Once
mod Placed
mod Taken
