mod Fresh
mod LineLemmas
mod PlaceUses
mod Senders
