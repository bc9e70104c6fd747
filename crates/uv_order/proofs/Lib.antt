mod Signing
mod Seeing
mod Naming
mod Placing
mod Summing
mod Taking
mod Chaining
mod Marking
