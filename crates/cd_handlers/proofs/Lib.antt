pub mod FieldLemmas
pub mod Bare
pub mod Readers
pub mod PlainStart
pub mod Tokens
pub mod Naming
pub mod NoChange
pub mod Sure
