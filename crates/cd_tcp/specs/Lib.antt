pub mod Budgets
pub mod Got
pub mod Pacing
pub mod Waiting
pub mod Tries
