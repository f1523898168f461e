-- Steps of the generator, and the bytes of the paths that draws name.
use Rattle.std.proofs.Common.{◌≡◌, ◌⊎◌, inl, inr, ℕ, ◌+◌, ◌*◌, ◌%◌, ◌^◌, ◌<◌, ◌==◌, zero, suc, not, Bool, true, false, ◌&&◌, List, [], ◌∷◌, ◌++◌, length, codes, cond, refl, sym, ◌∙◌, ap, arith, get_or, set, get_or-set_same, get_or-set_other, length-append, add-one}
use Rattle.std.specs.Fmt.{decimal}
use Rattle.std.proofs.lemmas.Fmt.{decimal_by_steps}
use Rattle.std.proofs.lemmas.List.Folds.{list_all-append}
use Rattle.std.proofs.lemmas.List.Sums.{sum_by_push}
use Rattle.std.proofs.lemmas.Bool.Decides.{nat_tests}
use Rattle.std.proofs.Math.Nat.{mod-add-mod}
use Rattle.wf_core.specs.Names.{has_no_nul}
use Rattle.trace_text.specs.declared.trace.CallLine.{CallLine}
use Rattle.trace_text.specs.Traces.{calls_of}
use Rattle.run_engine.specs.declared.draws.Draws.{Draws}
use Rattle.run_engine.specs.Generated.{draw_at, draws_of_call, entry_name, generated_lines, next_line, next_state, prefix_of, state_after}

pub wrapped : (state : ℕ) → (state * 6364136223846793005 % 2 ^ 64 + 1442695040888963407) % 2 ^ 64 ≡ next_state state
wrapped state = mod-add-mod (state * 6364136223846793005) (2 ^ 64) 1442695040888963407

-- one draw more
pub one_draw : (seed before after : ℕ) → after ≡ before + 1 → state_after seed after ≡ next_state (state_after seed before)
unfolding state_after
one_draw seed before after e =
    let next : after ≡ suc before = omega (arith, e) in
    ap (state_after seed) next

abbrev draws_of : ℕ → ℕ → ℕ → Draws
draws_of a b c = record { a = a; b = b; c = c }

three : (a b c x y z : ℕ) → a ≡ x → b ≡ y → c ≡ z → draws_of a b c ≡ draws_of x y z
three a b c x y z e f g = cc

-- the three draws of a call
module _ (seed call state : ℕ) (before : state ≡ state_after seed (3 * call)) where
  first : next_state state ≡ state_after seed (3 * call + 1)
  first = ap next_state before ∙ sym (one_draw seed (3 * call) (3 * call + 1) refl)

  second : next_state (next_state state) ≡ state_after seed (3 * call + 2)
  second = ap next_state first ∙ sym (one_draw seed (3 * call + 1) (3 * call + 2) (omega arith))

  third : next_state (next_state (next_state state)) ≡ state_after seed (3 * call + 3)
  third = ap next_state second ∙ sym (one_draw seed (3 * call + 2) (3 * call + 3) (omega arith))

  pub next_call : next_state (next_state (next_state state)) ≡ state_after seed (3 * (call + 1))
  next_call =
      let same : 3 * call + 3 ≡ 3 * (call + 1) = omega arith in
      third ∙ ap (state_after seed) same

  pub draws_are : (draws : Draws) → draws.a ≡ draw_at (next_state state) → draws.b ≡ draw_at (next_state (next_state state)) → draws.c ≡ draw_at (next_state (next_state (next_state state))) → draws ≡ draws_of_call seed call
  draws_are draws a b c = three draws.a draws.b draws.c _ _ _ (a ∙ ap draw_at first) (b ∙ ap draw_at second) (c ∙ ap draw_at third)

-- The lines.

pub lines_length : (seed count : ℕ) → length (generated_lines seed count) ≡ count
unfolding generated_lines
lines_length seed zero = refl
lines_length seed (suc count) =
    let before = lines_length seed count in
    omega (arith, length-append (generated_lines seed count) (next_line (generated_lines seed count) (draws_of_call seed count) ∷ []))

pub one_line : (seed call : ℕ) (lines new : List CallLine) (draws : Draws) → lines ≡ generated_lines seed call → draws ≡ draws_of_call seed call → new ≡ lines ++ next_line lines draws ∷ [] → new ≡ generated_lines seed (call + 1)
unfolding generated_lines
one_line seed call lines new draws e f g =
    g ∙ ap (λ (before : List CallLine). before ++ next_line before draws ∷ []) e ∙ ap (λ (d : Draws). generated_lines seed call ++ next_line (generated_lines seed call) d ∷ []) f ∙ ap (generated_lines seed) (sym (add-one call))

both : (a b : List ℕ) → has_no_nul a ≡ true → has_no_nul b ≡ true → has_no_nul (a ++ b) ≡ true
both a b h k =
    let split = list_all-append (λ (byte : ℕ). not (byte == 0)) a b in
    cc

digit : (byte : ℕ) → not (48 + byte == 0) ≡ true
digit byte = grind (arith, nat_tests)

one_digit : (byte : ℕ) → has_no_nul ((48 + byte) ∷ []) ≡ true
one_digit byte = ap (λ (b : Bool). b && true) (digit byte)

decimal_has_no_nul : (n : ℕ) → n < 2 ^ 64 → has_no_nul (decimal n) ≡ true
decimal_has_no_nul = decimal_by_steps (λ n digits. has_no_nul digits ≡ true) (λ n small. one_digit n) (λ n digits large before. both digits ((48 + n % 10) ∷ []) before (one_digit (n % 10)))

prefix_has_no_nul : (number : ℕ) → has_no_nul (prefix_of number) ≡ true
prefix_has_no_nul number =
    elim (number == 0) as (λ b. has_no_nul (cond b (codes "/") (cond (number == 1) (codes "/m/") (codes "/p/"))) ≡ true) [
      | true ↦ refl
      | false ↦ elim (number == 1) as (λ b. has_no_nul (cond b (codes "/m/") (codes "/p/")) ≡ true) [ true ↦ refl | false ↦ refl ]
    ]

pub entry_has_no_nul : (number : ℕ) → number < 2 ^ 64 → has_no_nul (entry_name number) ≡ true
entry_has_no_nul number small = both (codes "n") (decimal number) refl (decimal_has_no_nul number small)

pub path_has_no_nul : (prefix number : ℕ) → number < 2 ^ 64 → has_no_nul (prefix_of prefix ++ entry_name number) ≡ true
path_has_no_nul prefix number small = both (prefix_of prefix) (entry_name number) (prefix_has_no_nul prefix) (entry_has_no_nul number small)

-- Counts of each thread's calls, with one line more.

cases_bool : (b : Bool) → (b ≡ true) ⊎ (b ≡ false)
cases_bool true = inl refl
cases_bool false = inr refl

is_same : (a b : ℕ) → (a == b) ≡ true → a ≡ b
is_same a b h = grind (arith, nat_tests)

is_other : (a b : ℕ) → (a == b) ≡ false → b ≡ a → ⊥
is_other a b h e = grind (arith, nat_tests)

count_more : (lines : List CallLine) (line : CallLine) (thread : ℕ) (b : Bool) → (line.thread == thread) ≡ b → calls_of thread (lines ++ line ∷ []) ≡ calls_of thread lines + cond b 1 0
count_more lines line thread b e = sum_by_push (λ (l : CallLine). cond (l.thread == thread) 1 0) lines line ∙ ap (λ (c : Bool). calls_of thread lines + cond c 1 0) e

pub counted : (counts : List ℕ) (lines : List CallLine) (line : CallLine) (thread count : ℕ) → count ≡ calls_of line.thread lines + 1 → line.thread < length counts
    → get_or counts thread 0 ≡ calls_of thread lines → get_or (set counts line.thread count) thread 0 ≡ calls_of thread (lines ++ line ∷ [])
counted counts lines line thread count is within before =
    elim (cases_bool (line.thread == thread)) [
      | inl same ↦ (
          let t : line.thread ≡ thread = is_same line.thread thread same in
          ap (λ (k : ℕ). get_or (set counts line.thread count) k 0) (sym t) ∙ get_or-set_same counts line.thread count 0 within
          ∙ is ∙ ap (λ (k : ℕ). calls_of k lines + 1) t ∙ sym (count_more lines line thread true same)
          )
      | inr other ↦ get_or-set_other counts line.thread thread count 0 (is_other line.thread thread other) ∙ before ∙ sym (none_more (calls_of thread lines)) ∙ sym (count_more lines line thread false other)
    ]
  where
    none_more : (n : ℕ) → n + 0 ≡ n
    none_more n = omega arith
