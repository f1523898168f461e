-- How many calls each thread has, and which are opening calls, with one call more.
use Rattle.std.proofs.Common.{◌≡◌, ℕ, ◌<◌, ◌==◌, ◌+◌, ◌≤◌, cond, ◌⊎◌, inl, inr, if◌then◌else◌, Bool, true, false, List, [], ◌∷◌, ◌++◌, length, get_or, set, None, Some, refl, sym, ◌∙◌, ap, subst, arith, append-nil, length-append}
use Rattle.std.specs.Option.{option_to_list}
use Rattle.std.proofs.lemmas.Bool.Decides.{nat_tests}
use Rattle.std.proofs.lemmas.List.{length-set, get_or-set_same, get_or-set_other}
use Rattle.wf_core.specs.Limits.{threads_max, calls_max}
use Rattle.trace_text.specs.declared.trace.CallLine.{CallLine}
use Rattle.trace_text.specs.Traces.{Traced, AreCounts, calls_of}
use Rattle.trace_text.specs.Openings.{AreOpenings, is_opening, opening_of, openings_of}
use Rattle.trace_text.proofs.Growth.{one_more, count_more}

cases_bool : (b : Bool) → (b ≡ true) ⊎ (b ≡ false)
cases_bool true = inl refl
cases_bool false = inr refl

is_same : (a b : ℕ) → (a == b) ≡ true → a ≡ b
is_same a b h = grind (arith, nat_tests)

is_other : (a b : ℕ) → (a == b) ≡ false → b ≡ a → ⊥
is_other a b h e = grind (arith, nat_tests)

more : (calls : List CallLine) (line : CallLine) (thread : ℕ) (b : Bool) → (line.thread == thread) ≡ b
    → openings_of thread (calls ++ line ∷ []) ≡ openings_of thread calls ++ option_to_list (if b then Some (is_opening line.call) else None)
more calls line thread b h = one_more (opening_of thread) calls line (if b then Some (is_opening line.call) else None) (ap (λ (t : Bool). if t then Some (is_opening line.call) else None) h)

pub openings_more : (calls : List CallLine) (line : CallLine) (openings : List (List Bool)) → line.thread < threads_max → AreOpenings calls openings
    → AreOpenings (calls ++ line ∷ []) (set openings line.thread (get_or openings line.thread [] ++ is_opening line.call ∷ []))
openings_more calls line openings small are = record {
  count = length-set openings line.thread (get_or openings line.thread [] ++ is_opening line.call ∷ []) ∙ are.count;
  each = λ thread low.
      let new = get_or openings line.thread [] ++ is_opening line.call ∷ [] in
      elim (cases_bool (line.thread == thread)) [
        | inl same ↦ (
            let t : line.thread ≡ thread = is_same line.thread thread same in
            ap (λ (k : ℕ). get_or (set openings line.thread new) k []) (sym t)
            ∙ get_or-set_same openings line.thread new [] (omega (arith, are.count, small))
            ∙ ap (λ (old : List Bool). old ++ is_opening line.call ∷ []) (are.each line.thread small ∙ ap (λ (k : ℕ). openings_of k calls) t)
            ∙ sym (more calls line thread true same)
            )
        | inr other ↦ get_or-set_other openings line.thread thread new [] (is_other line.thread thread other) ∙ are.each thread low
            ∙ sym (append-nil (openings_of thread calls)) ∙ sym (more calls line thread false other)
      ];
}

pub counts_more : (trace after : Traced) (line : CallLine) (counts : List ℕ) → after.threads ≡ trace.threads → after.calls ≡ trace.calls ++ line ∷ [] → line.thread < threads_max → length counts ≡ threads_max
    → length trace.calls < calls_max → AreCounts trace counts → AreCounts after (set counts line.thread (get_or counts line.thread 0 + 1))
counts_more trace after line counts threads calls small size room are = record {
  threads = subst (λ (names : List (List ℕ)). length names ≤ threads_max) (sym threads) are.threads;
  calls = subst (λ (lines : List CallLine). length lines ≤ calls_max) (sym calls) (omega (arith, length-append trace.calls (line ∷ []), room));
  each = λ thread low.
      let new = get_or counts line.thread 0 + 1 in
      let counted : (b : Bool) → (line.thread == thread) ≡ b → calls_of thread after.calls ≡ calls_of thread trace.calls + cond b 1 0 =
      λ b h. ap (calls_of thread) calls ∙ count_more (λ (l : CallLine). l.thread == thread) trace.calls line b h in
      elim (cases_bool (line.thread == thread)) [
        | inl same ↦ (
            let t : line.thread ≡ thread = is_same line.thread thread same in
            ap (λ (k : ℕ). get_or (set counts line.thread new) k 0) (sym t) ∙ get_or-set_same counts line.thread new 0 (omega (arith, size, small))
            ∙ ap (λ (n : ℕ). n + 1) (are.each line.thread small ∙ ap (λ (k : ℕ). calls_of k trace.calls) t) ∙ sym (counted true same)
            )
        | inr other ↦ get_or-set_other counts line.thread thread new 0 (is_other line.thread thread other) ∙ are.each thread low
            ∙ none_more (calls_of thread trace.calls) ∙ sym (counted false other)
      ];
}
  where
    none_more : (n : ℕ) → n ≡ n + 0
    none_more n = omega arith
