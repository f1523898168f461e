-- One sender's marks are those of the list that it put, with their numbers.
use Rattle.std.proofs.Common.{◌≡◌, ℕ, zero, suc, ◌+◌, ◌<◌, ◌≤◌, Bool, true, false, cond, List, [], ◌∷◌, ◌++◌, length, count_by, get_or, refl, arith, ap}
use Rattle.std.specs.Prelude.{IsTrue}
use Rattle.std.proofs.lemmas.List.Sums.{sum_by-append}
use Rattle.proxy_laws.specs.declared.records.Mark.{Mark}
use Rattle.proxy_laws.specs.declared.records.OwnMark.{OwnMark}
use Rattle.proxy_laws.specs.Lists.{is_by}
use Rattle.proxy_laws.specs.OwnMarks.{own_from, own_marks, OwnMarksAreListed}

count_cons : (s : ℕ) (m : Mark) (ms : List Mark) → count_by (is_by s) (m ∷ ms) ≡ cond (is_by s m) 1 0 + count_by (is_by s) ms
count_cons s m ms = omega (arith, sum_by-append (λ x. cond (is_by s x) 1 0) (m ∷ []) ms)

count_from : (n s : ℕ) (marks : List Mark) → length (own_from n s marks) ≡ count_by (is_by s) marks
count_from n s [] = refl
count_from n s (m ∷ ms) = by_test (is_by s m) (count_cons s m ms) (count_from (suc n) s ms) where
  by_test : (b : Bool) → count_by (is_by s) (m ∷ ms) ≡ cond b 1 0 + count_by (is_by s) ms → length (own_from (suc n) s ms) ≡ count_by (is_by s) ms → length (cond b (record { nth = n; mark = m } ∷ own_from (suc n) s ms) (own_from (suc n) s ms)) ≡ count_by (is_by s) (m ∷ ms)
  by_test true cons rest = omega arith
  by_test false cons rest = omega arith

-- an own mark of a list whose first mark has the number n
record Stands (n s : ℕ) (marks : List Mark) (own : OwnMark) : Type 0 where
  low : n ≤ own.nth
  high : own.nth < n + length marks
  there : (j : ℕ) (d : Mark) → own.nth ≡ n + j → get_or marks j d ≡ own.mark
  by : IsTrue (is_by s own.mark)

later : (n s : ℕ) (m : Mark) (ms : List Mark) (own : OwnMark) → Stands (suc n) s ms own → Stands n s (m ∷ ms) own
later n s m ms own o = record { low = let l = o.low in omega arith; high = let h = o.high in omega arith; there = there; by = o.by } where
  there : (j : ℕ) (d : Mark) → own.nth ≡ n + j → get_or (m ∷ ms) j d ≡ own.mark
  there zero d e = let l = o.low in absurd (omega arith)
  there (suc j) d e = o.there j d (omega arith)

first : (n s : ℕ) (m : Mark) (ms : List Mark) → IsTrue (is_by s m) → Stands n s (m ∷ ms) (record { nth = n; mark = m })
first n s m ms is = record { low = omega arith; high = omega arith; there = there; by = is } where
  there : (j : ℕ) (d : Mark) → n ≡ n + j → get_or (m ∷ ms) j d ≡ m
  there zero d e = refl
  there (suc j) d e = absurd (omega arith)

each_from : (n s : ℕ) (marks : List Mark) (k : ℕ) (d : OwnMark) → k < length (own_from n s marks) → Stands n s marks (get_or (own_from n s marks) k d)
each_from n s [] k d near = absurd (omega arith)
each_from n s (m ∷ ms) k d near = by_test (λ i at. each_from (suc n) s ms i d at) (is_by s m) refl k near where
  by_test : ((i : ℕ) → i < length (own_from (suc n) s ms) → Stands (suc n) s ms (get_or (own_from (suc n) s ms) i d)) → (b : Bool) → is_by s m ≡ b → (i : ℕ) → i < length (cond b (record { nth = n; mark = m } ∷ own_from (suc n) s ms) (own_from (suc n) s ms)) → Stands n s (m ∷ ms) (get_or (cond b (record { nth = n; mark = m } ∷ own_from (suc n) s ms) (own_from (suc n) s ms)) i d)
  by_test rest true is zero at = first n s m ms is
  by_test rest true is (suc i) at = later n s m ms _ (rest i (omega arith))
  by_test rest false is i at = later n s m ms _ (rest i at)

-- the own mark of this number is one of the list
abbrev IsListed : List OwnMark → ℕ → Mark → Type 0
IsListed own n mark = (k : ℕ) × (k < length own) × ((e : OwnMark) → get_or own k e ≡ record { nth = n; mark = mark })

all_from : (n s : ℕ) (marks : List Mark) (j : ℕ) (d : Mark) → j < length marks → IsTrue (is_by s (get_or marks j d)) → (number : ℕ) → number ≡ n + j → IsListed (own_from n s marks) number (get_or marks j d)
all_from n s [] j d near is number e = absurd (omega arith)
all_from n s (m ∷ ms) zero d near is number e = rw is (0, omega arith, λ x. ap (λ (i : ℕ). record { nth = i; mark = m }) (omega arith))
all_from n s (m ∷ ms) (suc j) d near is number e = by_test (is_by s m) (all_from (suc n) s ms j d (omega arith) is number (omega arith)) where
  by_test : (b : Bool) → IsListed (own_from (suc n) s ms) number (get_or ms j d) → IsListed (cond b (record { nth = n; mark = m } ∷ own_from (suc n) s ms) (own_from (suc n) s ms)) number (get_or ms j d)
  by_test true rest = (suc rest.0, (let at = rest.1 in omega arith), rest.2)
  by_test false rest = rest

own_from_push : (n s : ℕ) (marks : List Mark) (mark : Mark) (number : ℕ) → is_by s mark ≡ true → number ≡ n + length marks → own_from n s (marks ++ mark ∷ []) ≡ own_from n s marks ++ record { nth = number; mark = mark } ∷ []
own_from_push n s [] mark number is e = rw is (ap (λ (i : ℕ). record { nth = i; mark = mark } ∷ []) (omega arith))
own_from_push n s (m ∷ ms) mark number is e = by_test (is_by s m) (own_from_push (suc n) s ms mark number is (omega arith)) where
  by_test : (b : Bool) → own_from (suc n) s (ms ++ mark ∷ []) ≡ own_from (suc n) s ms ++ record { nth = number; mark = mark } ∷ [] → cond b (record { nth = n; mark = m } ∷ own_from (suc n) s (ms ++ mark ∷ [])) (own_from (suc n) s (ms ++ mark ∷ [])) ≡ cond b (record { nth = n; mark = m } ∷ own_from (suc n) s ms) (own_from (suc n) s ms) ++ record { nth = number; mark = mark } ∷ []
  by_test true rest = ap (λ (own : List OwnMark). record { nth = n; mark = m } ∷ own) rest
  by_test false rest = rest

own_from_skip : (n s : ℕ) (marks : List Mark) (mark : Mark) → is_by s mark ≡ false → own_from n s (marks ++ mark ∷ []) ≡ own_from n s marks
own_from_skip n s [] mark is = rw is refl
own_from_skip n s (m ∷ ms) mark is = by_test (is_by s m) (own_from_skip (suc n) s ms mark is) where
  by_test : (b : Bool) → own_from (suc n) s (ms ++ mark ∷ []) ≡ own_from (suc n) s ms → cond b (record { nth = n; mark = m } ∷ own_from (suc n) s (ms ++ mark ∷ [])) (own_from (suc n) s (ms ++ mark ∷ [])) ≡ cond b (record { nth = n; mark = m } ∷ own_from (suc n) s ms) (own_from (suc n) s ms)
  by_test true rest = ap (λ (own : List OwnMark). record { nth = n; mark = m } ∷ own) rest
  by_test false rest = rest

pub own_marks_are_listed : OwnMarksAreListed
own_marks_are_listed = record {
  count = λ s marks. count_from 0 s marks;
  each = λ s marks k d near. let o = each_from 0 s marks k d near in (record { near = (let h = o.high in omega arith); there = λ e. o.there (get_or (own_marks s marks) k d).nth e (omega arith) }, o.by);
  all = λ s n marks d near is. all_from 0 s marks n d near is n (omega arith);
  put_own = λ s marks mark is. own_from_push 0 s marks mark (length marks) is (omega arith);
  put_other = λ s marks mark is. own_from_skip 0 s marks mark is;
}
