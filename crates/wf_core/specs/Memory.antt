-- What a source and a sink in memory show.
use Rattle.std.specs.Prelude.{ℕ, List}

-- a source in memory
pub record Reading : Type 0 where
  -- the bytes still to come, and how many it gave
  pub left : List ℕ
  pub given : ℕ
  -- the most bytes of one read, and the numbers of the reads that fail
  pub piece : ℕ
  pub failing : List ℕ
  -- how many reads there were, and how many of them failed
  pub reads : ℕ
  pub faults : ℕ

-- a sink in memory
pub record Writing : Type 0 where
  pub written : List ℕ
  -- the most bytes in all, the most bytes of one write, and the numbers of the writes that fail
  pub room : ℕ
  pub piece : ℕ
  pub failing : List ℕ
  -- how many writes there were, and how many of them failed
  pub writes : ℕ
  pub faults : ℕ
