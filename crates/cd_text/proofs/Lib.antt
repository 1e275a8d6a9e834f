mod NumberLemmas
pub mod ByKeyLemmas
