pub mod NumberLemmas
pub mod StoreLemmas
pub mod OpeningLemmas
pub mod MountLemmas
pub mod DrawLemmas
pub mod LawLemmas
pub mod OrderLemmas
