-- What started the jobs of one place, as a list in order of their numbers.
use Rattle.std.specs.Prelude.{◌≡◌, ℕ, ◌≤◌, ◌==◌, Bool, true, false, List, AllPairs, count_by, length, ◌<◌, take, slice_index_or}
use Rattle.proxy_laws.specs.declared.records.Mark.{Mark}
use Rattle.proxy_laws.specs.declared.records.Started.{Started}
use Rattle.proxy_laws.specs.declared.records.Started.TheVariants as started
use Rattle.proxy_laws.specs.Lists.{is_by}

-- it was the notice k
abbrev pub is_notice : ℕ → Started → Bool
is_notice k (started.Notice m) = m == k
is_notice k _ = false

-- a notice has no smaller number than an earlier one; a start by a closed owner is followed by such alone
abbrev pub MayFollow : Started → Started → Type 0
MayFollow (started.Notice k) (started.Notice m) = k ≤ m
MayFollow started.Closing later = IsClosing later where
  IsClosing : Started → Type 0
  IsClosing started.Closing = Unit {0}
  IsClosing _ = ⊥
MayFollow _ _ = Unit {0}

-- along the list the numbers of notices never fall, and after a start by a closed owner all are such
abbrev pub AreInOrder : {X : Type 0} → (X → Started) → List X → Type 0
AreInOrder start xs = AllPairs (λ x y. MayFollow (start x) (start y)) xs

-- each mark's seq is the number of its sender's marks before it: 0, 1, 2 and so on for each sender
abbrev pub AreNumbered : List Mark → Type 0
AreNumbered marks = (n : ℕ) (d : Mark) → n < length marks → (slice_index_or marks n d).seq ≡ count_by (is_by (slice_index_or marks n d).sender) (take n marks)
