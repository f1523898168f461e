pub mod ClosingLemmas
pub mod DeedLemmas
pub mod HoldingLemmas
pub mod NoticeLemmas
pub mod TurnLemmas
