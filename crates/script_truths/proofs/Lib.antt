mod Alike
mod Kept
mod Rows
mod Beginnings
mod Settled
mod Named
