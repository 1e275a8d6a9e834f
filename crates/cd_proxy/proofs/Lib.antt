mod Examples
pub mod ExchangeLemmas
pub mod EmptyLemmas
pub mod Telling
pub mod HeadLemmas
pub mod FieldLemmas
pub mod TakingLemmas
pub mod IntakeLemmas
pub mod FinalLemmas
pub mod ContentLemmas
pub mod ResponseLemmas
