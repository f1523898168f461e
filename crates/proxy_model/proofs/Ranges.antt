-- What a world names is in range, and stays so where a list of marks grows.
use Rattle.std.proofs.Common.{◌≡◌, ℕ, ◌+◌, ◌<◌, ◌==◌, Bool, false, cond, List, [], ◌∷◌, ◌++◌, length, count_by, get_or, set, arith, ap, ◌∙◌, inl, inr, Result, Ok, Err, OnOk, OnErr}
use Rattle.std.specs.Bool.{IsTrue}
use Rattle.std.specs.Prelude.{if◌then◌else◌}
use Rattle.std.proofs.lemmas.Bool.Decides.{nat_tests}
use Rattle.std.proofs.lemmas.List.{get_or-set_same, get_or-set_other, get_or_default, get_or_past}
use Rattle.std.proofs.lemmas.Bool.{cases_eq, cases_lt}
use Rattle.std.specs.declared.alloc.AllocError.{AllocError}
use Rattle.std.proofs.lemmas.List.Sums.{sum_by_push}
use Rattle.proxy_laws.specs.declared.records.Mark.{Mark}
use Rattle.proxy_laws.specs.Lists.{is_by}
use Rattle.proxy_model.specs.Shapes.{MarksInRange}

-- a place past the end of the mailbox has no notice
pub mail_in_range : (places p : ℕ) (mail : List Bool) → length mail ≡ places → IsTrue (get_or mail p false) → p < places
mail_in_range places p mail len is = elim (cases_lt p places) [
  | inl near ↦ near
  | inr far ↦ let past = get_or_past mail p false (omega arith) in absurd (cc)
]

-- one place's list is replaced by one whose marks are of senders that are there
marks_replaced : (senders p : ℕ) (sent : List (List Mark)) (new : List Mark) → p < length sent → ((s : ℕ) → 0 < count_by (is_by s) new → s < senders) → MarksInRange senders sent → MarksInRange senders (set sent p new)
marks_replaced senders p sent new near ok was q s some = elim (cases_eq q p) [
  | inl same ↦ ok s (rw (← get_or-set_same sent p new [] near) (rw same at some))
  | inr other ↦ was q s (rw (← get_or-set_other sent p q new [] other) some)
]

near_added : (senders s t old new : ℕ) → new ≡ old + (if t == s then 1 else 0) → t < senders → (0 < old → s < senders) → 0 < new → s < senders
near_added senders s t old new e near was some = grind (arith, nat_tests)

-- a mark at the end of a place's list, or the list as it was
pub marks_pushed : (senders p : ℕ) (sent : List (List Mark)) (mark : Mark) (old new : List Mark) (r : Result (Unit {0}) AllocError) → OnOk r (new ≡ old ++ mark ∷ []) → OnErr r (new ≡ old) → old ≡ get_or sent p old → p < length sent → mark.sender < senders → MarksInRange senders sent → MarksInRange senders (set sent p new)
marks_pushed senders p sent mark old new (Ok u) e h read near there was =
    marks_replaced senders p sent new near
    (λ s some. near_added senders s mark.sender (count_by (is_by s) old) (count_by (is_by s) new) (ap (count_by (is_by s)) e ∙ sum_by_push (λ m. cond (is_by s m) 1 0) old mark) there
    (λ had. was p s (rw (← get_or_default sent p old [] near, ← read) had)) some)
    was
marks_pushed senders p sent mark old new (Err u) h e read near there was =
    marks_replaced senders p sent new near
    (λ s some. was p s (rw (← get_or_default sent p old [] near, ← read, ← e) some))
    was
