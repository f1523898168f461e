-- The law: scripts that keep their order, and legal cells, make one lawful run.
use Rattle.std.proofs.Common.{◌≡◌, ℕ, zero, suc, ◌+◌, ◌<◌, ◌≤◌, ◌⊎◌, ◌==◌, Bool, true, false, cond, List, [], ◌∷◌, length, map, refl, sym, ap, ◌∙◌, subst, ⊎_elim, inl, inr, arith, eq-eqb, ne_eqb, lt_of_not-le, take}
use Rattle.std.specs.List.{filter, count_by, range_with_len}
use Rattle.std.proofs.lemmas.List.{length-map}
use Rattle.std.proofs.lemmas.List.Sums.{sum_by-append}
use Rattle.std.proofs.lemmas.Bool.Decides.{nat_tests}
use mathlib.Core.Option.{some, some-injective}
use mathlib.Core.Logic.{dite}
use native.Mathlib.Decide.{ℕ_discrete, dec_le}
use lib.ListN.{get_elem?}
use Rattle.turn_cell.specs.declared.entry.Entry.{Entry}
use Rattle.turn_cell.specs.declared.view.Known.{Known}
use Rattle.turn_cell.specs.Maps.{one_if_below}
use Rattle.turn_cell.specs.Histories.{HasMember, Replays, entries_at_cell, state_after}
use Rattle.turn_cell.proofs.Closings.{at_there}
use Rattle.turn_cell.proofs.Frames.{at_below}
use Rattle.cell_runs.specs.Runs.{steps_of_thread, steps_of_call, stamps, AreCallsMade, IsLawfulRun, ScriptsKeepOrder, CellsAreLegal, IsHistory}
use Rattle.cell_runs.proofs.Sorted.{has_none, has_cases, has_other, has_filtered, filtered_has, From, from_filter, from_pairs, same_list, dense}
use Rattle.cell_runs.proofs.Replays.{all_answer, store_is}
use Rattle.cell_runs.proofs.Scripted.{none_filtered, of_script, walk_of, in_order, as_many}

eq_of : (a b : ℕ) → (a == b) ≡ true → a ≡ b
eq_of a b e = grind (arith, nat_tests)

near_or_far : (a b : ℕ) → (a < b) ⊎ (b ≤ a)
near_or_far a b = elim (dec_le b a) as (λ _. (a < b) ⊎ (b ≤ a)) [ yes d ↦ inr d | no d ↦ inl (lt_of_not-le d) ]

length_range : (b n : ℕ) → length (range_with_len b n) ≡ n
length_range b zero = refl
length_range b (suc n) = let r = length_range (b + 1) n in omega arith

module _ {X : Type 0} (p : X → Bool) where
  one : (a b : ℕ) → (0 + a) + b ≡ a + b
  one a b = omega arith

  pub count_cons : (x : X) (xs : List X) → count_by p (x ∷ xs) ≡ cond (p x) 1 0 + count_by p xs
  count_cons x xs = sum_by-append (λ (z : X). cond (p z) 1 0) (x ∷ []) xs ∙ one (cond (p x) 1 0) (count_by p xs)

  count_one : (xs : List X) (x : X) → HasMember xs x → p x ≡ true → 0 < count_by p xs
  count_one [] x h is = absurd (has_none x h)
  count_one (y ∷ ys) x h is = let c = count_cons y ys in ⊎_elim (λ (e : y ≡ x). let a : cond {A = ℕ} (p y) 1 0 ≡ 1 = ap (λ b. cond b 1 0) (ap p e ∙ is) in omega arith) (λ (o : HasMember ys x). let r = count_one ys x o is in omega arith) (has_cases y ys x h)

  count_two : (xs : List X) (i j : ℕ) (x y : X) → get_elem? xs i ≡ some x → get_elem? xs j ≡ some y → i < j → p x ≡ true → p y ≡ true → 1 < count_by p xs
  count_two [] i j x y ex ey l px py = absurd (has_none x (i, ex))
  count_two (z ∷ zs) zero zero x y ex ey l px py = absurd (omega arith)
  count_two (z ∷ zs) zero (suc j) x y ex ey l px py = let c = count_cons z zs in let a : cond {A = ℕ} (p z) 1 0 ≡ 1 = ap (λ b. cond b 1 0) (ap p (some-injective z x ex) ∙ px) in let r = count_one zs y (j, ey) py in omega arith
  count_two (z ∷ zs) (suc i) zero x y ex ey l px py = absurd (omega arith)
  count_two (z ∷ zs) (suc i) (suc j) x y ex ey l px py = let c = count_cons z zs in let r = count_two zs i j x y ex ey (omega arith) px py in omega arith

  count_has : (xs : List X) → 0 < count_by p xs → (x : X) × HasMember xs x × (p x ≡ true)
  count_has [] h = absurd (omega arith)
  count_has (y ∷ ys) h = elim (p y) as (λ b. p y ≡ b → (x : X) × HasMember (y ∷ ys) x × (p x ≡ true)) [
    | true ↦ λ is. (y, (0, refl), is)
    | false ↦ λ is. let c = count_cons y ys in let a : cond {A = ℕ} (p y) 1 0 ≡ 0 = ap (λ b. cond b 1 0) is in let r = count_has ys (omega arith) in (r.0, has_other y ys r.0 r.1, r.2)
  ] refl

module _ {X Y : Type 0} (f : X → Y) where
  pub mapped_has : (xs : List X) (y : Y) → HasMember (map f xs) y → (x : X) × HasMember xs x × (f x ≡ y)
  mapped_has [] y h = absurd (has_none y h)
  mapped_has (x ∷ xs) y h = ⊎_elim (λ (e : f x ≡ y). (x, (0, refl), e)) (λ (o : HasMember (map f xs) y). let r = mapped_has xs y o in (r.0, has_other x xs r.0 r.1, r.2)) (has_cases (f x) (map f xs) y h)

  pub has_mapped : (xs : List X) (x : X) → HasMember xs x → HasMember (map f xs) (f x)
  has_mapped [] x h = absurd (has_none x h)
  has_mapped (z ∷ zs) x h = ⊎_elim (λ (e : z ≡ x). (0, ap (λ q. some (f q)) e)) (λ (o : HasMember zs x). has_other (f z) (map f zs) (f x) (has_mapped zs x o)) (has_cases z zs x h)

  from_mapped : (key : X → ℕ) (key' : Y → ℕ) → ((x : X) → key' (f x) ≡ key x) → (b : ℕ) (xs : List X) → From key b xs → From key' b (map f xs)
  from_mapped key key' same b [] h = tt
  from_mapped key key' same b (x ∷ xs) h = (subst (λ k. b ≤ k) (sym (same x)) h.0, subst (λ k. From key' (k + 1) (map f xs)) (sym (same x)) (from_mapped key key' same (key x + 1) xs h.1))

module _ {S O A C R : Type 0} (after : S → O → S) (reply : S → O → A) (Walk : List R → C → List (Known O A) → R → Type 0) (opening : ℕ → S) (scripts : List (List C)) (replies : List (List R)) (owns : List (List (Known O A)))
    (logs : ℕ → List (Entry O A)) (last : ℕ → S) (cells : ℕ) (steps : List (Known O A))
    (sk : ScriptsKeepOrder after reply Walk scripts replies owns) (ck : CellsAreLegal after reply Walk opening owns logs last cells) (hist : IsHistory logs cells steps) where
  abbrev Kn : Type 0
  Kn = Known O A

  abbrev key : Kn → ℕ
  key k = k.entry.stamp

  counts_once : (x : ℕ) → count_by (λ (k : Kn). k.entry.stamp == x) steps ≡ one_if_below x ck.clock
  counts_once x = hist.counts x ∙ ck.once x

  strict : From key 0 steps
  strict = from_pairs key 0 steps (λ k h. omega arith) (λ i j k l at_k at_l less. let le = hist.sorted i j k l at_k at_l less in dite (ℕ_discrete (key k) (key l))
      (λ e. absurd (let two = count_two (λ (z : Kn). z.entry.stamp == key l) steps i j k l at_k at_l less (eq-eqb (key k) (key l) e) (eq-eqb (key l) (key l) refl) in let o = counts_once (key l) in omega arith))
      (λ ne. omega arith))

  stamps_range : stamps steps ≡ range_with_len 0 ck.clock
  stamps_range = dense key 0 ck.clock steps strict
      (λ k h. let one = count_one (λ (z : Kn). z.entry.stamp == key k) steps k h (eq-eqb (key k) (key k) refl) in let o = counts_once (key k) in omega arith)
      (λ x lo hi. let o = counts_once x in let w = count_has (λ (z : Kn). z.entry.stamp == x) steps (omega arith) in (w.0, w.1, eq_of (key w.0) x w.2))

  long : length steps ≡ ck.clock
  long = sym (length-map steps key) ∙ (ap length stamps_range ∙ length_range 0 ck.clock)

  -- the steps of a cell are its entries
  of_cell : (c : ℕ) → c < cells → entries_at_cell c steps ≡ logs c
  of_cell c near = same_list (λ (e : Entry O A). e.stamp) 0 0 (entries_at_cell c steps) (logs c)
      (from_mapped (λ (k : Kn). k.entry) key (λ (e : Entry O A). e.stamp) (λ k. refl) 0 (filter (λ (k : Kn). k.cell == c) steps) (from_filter key (λ (k : Kn). k.cell == c) 0 steps strict))
      (from_pairs (λ (e : Entry O A). e.stamp) 0 (logs c) (λ e h. omega arith) (ck.rises c near))
      (λ e h. let m = mapped_has (λ (k : Kn). k.entry) (filter (λ (k : Kn). k.cell == c) steps) e h in let f = has_filtered (λ (k : Kn). k.cell == c) steps m.0 m.1 in
      let is : m.0.cell ≡ c = eq_of m.0.cell c f.1 in let g = hist.from f.0.0 m.0 f.0.1 in subst (λ (z : ℕ × Entry O A). HasMember (logs z.0) z.1) (λ i. (is i, m.2 i)) g.1)
      (λ e h. has_mapped (λ (k : Kn). k.entry) (filter (λ (k : Kn). k.cell == c) steps) (record { cell = c; entry = e }) (filtered_has (λ (k : Kn). k.cell == c) steps (record { cell = c; entry = e }) (hist.back c e near h) (eq-eqb c c refl)))

  script_of : (t : ℕ) (ks : List Kn) → get_elem? owns t ≡ some ks → (cs : List C) × (rs : List R) × (get_elem? scripts t ≡ some cs) × (get_elem? replies t ≡ some rs) × AreCallsMade Walk t 1 [] cs rs ks
  script_of t ks at = let b = at_below owns t ks at in let co = sk.count_owns in let cr = sk.count_replies in let s = at_there scripts t (omega arith) in let r = at_there replies t (omega arith) in
      (s.0, r.0, s.1, r.1, sk.made t s.0 r.0 ks s.1 r.1 at)

  -- a step is its runner's own
  owned : (k : Kn) → HasMember steps k → (ks : List Kn) × (get_elem? owns k.entry.runner ≡ some ks) × HasMember ks k
  owned k h = let f = hist.from h.0 k h.1 in let u = at_there owns k.entry.runner (ck.runners k.cell f.0 f.1.0 k.entry f.1.1) in
      let in_runner = filtered_has (λ (e : Entry O A). e.runner == k.entry.runner) (logs k.cell) k.entry f.1 (eq-eqb k.entry.runner k.entry.runner refl) in
      let in_own = subst (λ (l : List (Entry O A)). HasMember l k.entry) (ck.own k.entry.runner k.cell u.0 u.1 f.0) in_runner in
      let m = mapped_has (λ (z : Kn). z.entry) (filter (λ (z : Kn). z.cell == k.cell) u.0) k.entry in_own in let g = has_filtered (λ (z : Kn). z.cell == k.cell) u.0 m.0 m.1 in
      let is : m.0.cell ≡ k.cell = eq_of m.0.cell k.cell g.1 in (u.0, u.1, subst (λ (z : Kn). HasMember u.0 z) (λ i. record { cell = is i; entry = m.2 i }) g.0)

  -- a thread's own entries are steps
  is_step : (t : ℕ) (ks : List Kn) → get_elem? owns t ≡ some ks → (k : Kn) → HasMember ks k → HasMember steps k
  is_step t ks at k h = let near = ck.own_near t h.0 ks k at h.1 in
      let in_cell = has_mapped (λ (z : Kn). z.entry) (filter (λ (z : Kn). z.cell == k.cell) ks) k (filtered_has (λ (z : Kn). z.cell == k.cell) ks k h (eq-eqb k.cell k.cell refl)) in
      let in_runner = subst (λ (l : List (Entry O A)). HasMember l k.entry) (sym (ck.own t k.cell ks at near)) in_cell in
      hist.back k.cell k.entry near (has_filtered (λ (e : Entry O A). e.runner == t) (logs k.cell) k.entry in_runner).0

  thread_is : (k : Kn) (ks : List Kn) → get_elem? owns k.entry.runner ≡ some ks → HasMember ks k → k.entry.caller.thread ≡ k.entry.runner
  thread_is k ks at h = let s = script_of k.entry.runner ks at in (of_script Walk k.entry.runner 1 [] s.0 s.1 ks s.4 k h).1

  of_thread_is : (t : ℕ) (ks : List Kn) → get_elem? owns t ≡ some ks → steps_of_thread t steps ≡ ks
  of_thread_is t ks at = same_list key 0 0 (steps_of_thread t steps) ks (from_filter key (λ (k : Kn). k.entry.caller.thread == t) 0 steps strict) (from_pairs key 0 ks (λ k h. omega arith) (sk.rising t ks at))
      (λ k h. let f = has_filtered (λ (z : Kn). z.entry.caller.thread == t) steps k h in let o = owned k f.0 in let is : k.entry.runner ≡ t = sym (thread_is k o.0 o.1 o.2) ∙ eq_of k.entry.caller.thread t f.1 in
      subst (λ (l : List Kn). HasMember l k) (some-injective o.0 ks (sym o.1 ∙ (ap (get_elem? owns) is ∙ at))) o.2)
      (λ k h. let s = script_of t ks at in filtered_has (λ (z : Kn). z.entry.caller.thread == t) steps k (is_step t ks at k h) (eq-eqb k.entry.caller.thread t (of_script Walk t 1 [] s.0 s.1 ks s.4 k h).1))

  pub lawful : IsLawfulRun after reply Walk opening scripts replies steps last cells
  lawful = record {
    one_reply = λ t cs at. let b = at_below scripts t cs at in let co = sk.count_owns in let cr = sk.count_replies in let r = at_there replies t (omega arith) in let o = at_there owns t (omega arith) in
        (r.0, r.1, as_many Walk t 1 [] cs r.0 o.0 (sk.made t cs r.0 o.0 at r.1 o.1));
    stamps_are = stamps_range ∙ ap (range_with_len 0) (sym long);
    answers = all_answer after reply opening steps (λ c. ⊎_elim (λ (near : c < cells). subst (Replays after reply (opening c)) (sym (of_cell c near)) (ck.answers c near))
        (λ (far : cells ≤ c). subst (Replays after reply (opening c)) (sym (ap (map (λ (k : Kn). k.entry)) (none_filtered (λ (k : Kn). k.cell == c) steps (λ k h. let f = (hist.from h.0 k h.1).0 in ne_eqb k.cell c (λ e. omega arith))))) tt) (near_or_far c cells));
    last_is = λ c near. store_is after reply opening steps c ∙ (ap (state_after after (opening c)) (of_cell c near) ∙ sym (ck.last_is c near));
    callers = λ i k at. let o = owned k (i, at) in let s = script_of k.entry.runner o.0 o.1 in let f = of_script Walk k.entry.runner 1 [] s.0 s.1 o.0 s.4 k o.2 in let a = f.2 in let b = f.3 in
        (s.0, ap (get_elem? scripts) f.1 ∙ s.2, omega arith, omega arith, sym f.1);
    walks = λ t n cs rs c r at_cs at_rs at_c at_r. let b = at_below scripts t cs at_cs in let co = sk.count_owns in let o = at_there owns t (omega arith) in let number : 1 + n ≡ n + 1 = omega arith in
        subst (λ (l : List Kn). Walk (take n rs) c (steps_of_call (n + 1) l) r) (sym (of_thread_is t o.0 o.1)) (subst (λ (q : ℕ). Walk (take n rs) c (steps_of_call q o.0) r) number (walk_of Walk t 1 n [] cs rs o.0 c r (sk.made t cs rs o.0 at_cs at_rs o.1) at_c at_r));
    order = λ i j k l at_k at_l same less. let ok = owned k (i, at_k) in let ol = owned l (j, at_l) in let is : l.entry.runner ≡ k.entry.runner = sym (thread_is l ol.0 ol.1 ol.2) ∙ (sym same ∙ thread_is k ok.0 ok.1 ok.2) in
        let lists : ol.0 ≡ ok.0 = some-injective ol.0 ok.0 (sym ol.1 ∙ (ap (get_elem? owns) is ∙ ok.1)) in let hl : HasMember ok.0 l = subst (λ (z : List Kn). HasMember z l) lists ol.2 in
        let s = script_of k.entry.runner ok.0 ok.1 in
        ⊎_elim (λ (before : ok.2.0 < hl.0). sk.rising k.entry.runner ok.0 ok.1 ok.2.0 hl.0 k l ok.2.1 hl.1 before)
        (λ (after : hl.0 ≤ ok.2.0). absurd (let q = in_order Walk k.entry.runner 1 [] s.0 s.1 ok.0 s.4 hl.0 ok.2.0 l k hl.1 ok.2.1 after in omega arith)) (near_or_far ok.2.0 hl.0);
  }
