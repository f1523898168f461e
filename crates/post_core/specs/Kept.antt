-- What is kept of the jobs of one place, as lists.
use Rattle.std.specs.Prelude.{ℕ, suc, ◌==◌, List, [], ◌∷◌, map, slice_index_or, if◌then◌else◌}
use Rattle.proxy_laws.specs.declared.records.Mark.{Mark}
use Rattle.post_core.specs.declared.views.Entry.{Entry}
use Rattle.post_core.specs.declared.views.Kept.{Kept}

-- the member for place p, of a list with one for each place
abbrev pub listed : {X : Type 0} → List (List X) → ℕ → List X
listed xs p = slice_index_or xs p []

module _ {M : Type 0} where
  abbrev pub marks_of : List (Entry M) → List Mark
  marks_of entries = map (λ e. e.mark) entries

  abbrev pub kept : ℕ → Entry M → Kept M
  kept n e = record { nth = n; mark = e.mark; meaning = e.meaning }

  -- what the pass of sender s keeps of these entries, of which the first has the number n
  abbrev pub kept_from : ℕ → ℕ → List (Entry M) → List (Kept M)
  kept_from n s [] = []
  kept_from n s (e ∷ es) = if e.mark.sender == s then kept n e ∷ kept_from (suc n) s es else kept_from (suc n) s es

  abbrev pub kept_by : ℕ → List (Entry M) → List (Kept M)
  kept_by s es = kept_from 0 s es
