pub mod HeldJobs
pub mod Lines
pub mod PlaceUses
pub mod Senders
