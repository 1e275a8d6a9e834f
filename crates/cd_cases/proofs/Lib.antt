pub mod LeaseLemmas
