-- The marks of one sender among those of a place, with the numbers of their jobs.
use Rattle.std.specs.Prelude.{◌≡◌, ℕ, suc, ◌<◌, true, false, IsTrue, List, [], ◌∷◌, ◌++◌, length, count_by, All, slice_index_or, if◌then◌else◌}
use Rattle.proxy_laws.specs.declared.records.Mark.{Mark}
use Rattle.proxy_laws.specs.declared.records.OwnMark.{OwnMark}
use Rattle.proxy_laws.specs.Lists.{is_by}

-- the marks of s among these, of which the first has the number n
abbrev pub own_from : ℕ → ℕ → List Mark → List OwnMark
own_from n s [] = []
own_from n s (mark ∷ marks) = if is_by s mark then record { nth = n; mark = mark } ∷ own_from (suc n) s marks else own_from (suc n) s marks

-- the marks of s among all those of a place
abbrev pub own_marks : ℕ → List Mark → List OwnMark
own_marks s marks = own_from 0 s marks

-- the mark stands in the list at its number
pub record IsAtItsNumber (marks : List Mark) (own : OwnMark) : Type 0 where
  pub near : own.nth < length marks
  pub there : (d : Mark) → slice_index_or marks own.nth d ≡ own.mark

-- one sender's marks: how many they are, which, and what a put adds
pub record OwnMarksAreListed : Type 0 where
  pub count : (s : ℕ) (marks : List Mark) → length (own_marks s marks) ≡ count_by (is_by s) marks
  pub each : (s : ℕ) (marks : List Mark) → All (λ own. IsAtItsNumber marks own × IsTrue (is_by s own.mark)) (own_marks s marks)
  pub all : (s n : ℕ) (marks : List Mark) (d : Mark) → n < length marks → IsTrue (is_by s (slice_index_or marks n d)) → (k : ℕ) × (k < length (own_marks s marks)) × ((e : OwnMark) → slice_index_or (own_marks s marks) k e ≡ record { nth = n; mark = slice_index_or marks n d })
  pub put_own : (s : ℕ) (marks : List Mark) (mark : Mark) → is_by s mark ≡ true → own_marks s (marks ++ mark ∷ []) ≡ own_marks s marks ++ record { nth = length marks; mark = mark } ∷ []
  pub put_other : (s : ℕ) (marks : List Mark) (mark : Mark) → is_by s mark ≡ false → own_marks s (marks ++ mark ∷ []) ≡ own_marks s marks
