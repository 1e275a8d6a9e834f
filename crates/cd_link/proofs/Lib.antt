pub mod LaneLemmas
pub mod LifeLemmas
pub mod StreamLemmas
pub mod ToldLemmas
