pub mod Halted
mod Truths
