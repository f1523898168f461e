-- The limits of a target.
use Rattle.std.specs.Prelude.{ℕ}

-- the most senders
abbrev pub senders_max : ℕ
senders_max = 64

-- the most places: as many as the words of the mailbox have bits
abbrev pub places_max : ℕ
places_max = 256
