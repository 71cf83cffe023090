mod Readings
mod Rounded
mod Inside
mod Needs
mod Enough
