-- A run of scripts over cells, as one history.
use Rattle.std.specs.Prelude.{◌≡◌, ℕ, zero, suc, ◌+◌, ◌<◌, ◌==◌, ◌≤◌, List, [], ◌∷◌, ◌++◌, length, map, take}
use Rattle.std.specs.List.{filter, count_by, range_with_len}
use Rattle.turn_cell.specs.Maps.{one_if_below, sum_below, with_value_at}
use Rattle.turn_cell.specs.Histories.{HasMember, Replays, count_with_stamp, entries_at_cell, entries_of_runner, state_after}
use mathlib.Core.Option.{some}
use lib.ListN.{get_elem?}
use Rattle.turn_cell.specs.declared.entry.Entry.{Entry}
use Rattle.turn_cell.specs.declared.entry.CellRecord.{CellRecord}
use Rattle.turn_cell.specs.declared.view.Known.{Known}

module _ {O A : Type 0} where
  -- the steps of a thread
  abbrev pub steps_of_thread : ℕ → List (Known O A) → List (Known O A)
  steps_of_thread t ks = filter (λ k. k.entry.caller.thread == t) ks

  -- the steps of the calls of this number
  abbrev pub steps_of_call : ℕ → List (Known O A) → List (Known O A)
  steps_of_call n ks = filter (λ k. k.entry.caller.call == n) ks

  abbrev pub stamps : List (Known O A) → List ℕ
  stamps ks = map (λ k. k.entry.stamp) ks

  -- these are the steps of the call n of the thread t
  abbrev pub AreStepsOf : ℕ → ℕ → List (Known O A) → Type 0
  AreStepsOf t n ks = (i : ℕ) (k : Known O A) → get_elem? ks i ≡ some k → (k.entry.runner ≡ t) × (k.entry.caller.thread ≡ t) × (k.entry.caller.call ≡ n)

  abbrev pub StampsRise : List (Known O A) → Type 0
  StampsRise ks = (i j : ℕ) (k l : Known O A) → get_elem? ks i ≡ some k → get_elem? ks j ≡ some l → i < j → k.entry.stamp < l.entry.stamp

module _ {O A : Type 0} where
  -- the steps are the entries of all cells, in order of stamp
  pub record IsHistory (logs : ℕ → List (Entry O A)) (cells : ℕ) (steps : List (Known O A)) : Type 0 where
    pub sorted : (i j : ℕ) (k l : Known O A) → get_elem? steps i ≡ some k → get_elem? steps j ≡ some l → i < j → k.entry.stamp ≤ l.entry.stamp
    pub from : (i : ℕ) (k : Known O A) → get_elem? steps i ≡ some k → (k.cell < cells) × HasMember (logs k.cell) k.entry
    pub counts : (x : ℕ) → count_by (λ (k : Known O A). k.entry.stamp == x) steps ≡ sum_below cells (λ c. count_with_stamp x (logs c))
    pub back : (c : ℕ) (e : Entry O A) → c < cells → HasMember (logs c) e → HasMember steps (record { cell = c; entry = e })

  abbrev pub known_at : ℕ → Entry O A → Known O A
  known_at c e = record { cell = c; entry = e }

module _ {S O A : Type 0} where
  -- the entries of the cell c
  abbrev pub log_of : List (CellRecord S O A) → ℕ → List (Entry O A)
  log_of [] c = []
  log_of (r ∷ rs) zero = r.entries.items
  log_of (r ∷ rs) (suc c) = log_of rs c

  -- all entries, cell by cell from the number c on
  abbrev pub flattened : ℕ → List (CellRecord S O A) → List (Known O A)
  flattened c [] = []
  flattened c (r ∷ rs) = map (known_at c) r.entries.items ++ flattened (c + 1) rs

-- a call's meaning is a relation of the replies that its thread had before, the call, its steps and its reply
module _ {C R O A : Type 0} (Walk : List R → C → List (Known O A) → R → Type 0) where
  -- behind those replies, the entries are those of the calls, one after another, each call's a walk to its reply
  abbrev pub AreCallsMade : ℕ → ℕ → List R → List C → List R → List (Known O A) → Type 0
  AreCallsMade t n before [] [] ks = ks ≡ []
  AreCallsMade t n before [] (r ∷ rs) ks = ⊥
  AreCallsMade t n before (c ∷ cs) [] ks = ⊥
  AreCallsMade t n before (c ∷ cs) (r ∷ rs) ks = (own : List (Known O A)) × (rest : List (Known O A)) × (ks ≡ own ++ rest) × AreStepsOf t n own × Walk before c own r × AreCallsMade t (n + 1) (before ++ r ∷ []) cs rs rest

module _ {S O A : Type 0} (after : S → O → S) where
  -- all cells after all steps, a step changing its own cell alone
  abbrev pub store_after : (ℕ → S) → List (Known O A) → ℕ → S
  store_after store [] = store
  store_after store (k ∷ ks) = store_after (with_value_at store k.cell (after (store k.cell) k.entry.op)) ks

module _ {S O A : Type 0} (after : S → O → S) (reply : S → O → A) where
  -- each step has the answer that its operation has there
  abbrev pub AllReplay : (ℕ → S) → List (Known O A) → Type 0
  AllReplay store [] = Unit {0}
  AllReplay store (k ∷ ks) = (reply (store k.cell) k.entry.op ≡ k.entry.answer) × AllReplay (with_value_at store k.cell (after (store k.cell) k.entry.op)) ks

module _ {S O A C R : Type 0} (after : S → O → S) (reply : S → O → A) (Walk : List R → C → List (Known O A) → R → Type 0) where
  -- one history of all threads
  pub record IsLawfulRun (opening : ℕ → S) (scripts : List (List C)) (replies : List (List R)) (steps : List (Known O A)) (last : ℕ → S) (cells : ℕ) : Type 0 where
    -- (a) one reply for each call; the stamps are 0, 1, 2 and so on; the replay gives each answer, and the last store
    pub one_reply : (t : ℕ) (cs : List C) → get_elem? scripts t ≡ some cs → (rs : List R) × (get_elem? replies t ≡ some rs) × (length rs ≡ length cs)
    pub stamps_are : stamps steps ≡ range_with_len 0 (length steps)
    pub answers : AllReplay after reply opening steps
    pub last_is : (c : ℕ) → c < cells → store_after after opening steps c ≡ last c
    -- (b) each step's caller is a call of the trace, and its runner is the caller's thread
    pub callers : (i : ℕ) (k : Known O A) → get_elem? steps i ≡ some k → (cs : List C) × (get_elem? scripts k.entry.caller.thread ≡ some cs) × (0 < k.entry.caller.call) × (k.entry.caller.call ≤ length cs) × (k.entry.runner ≡ k.entry.caller.thread)
    -- (c) each call's reply is the walk's over its own steps
    pub walks : (t n : ℕ) (cs : List C) (rs : List R) (c : C) (r : R) → get_elem? scripts t ≡ some cs → get_elem? replies t ≡ some rs → get_elem? cs n ≡ some c → get_elem? rs n ≡ some r → Walk (take n rs) c (steps_of_call (n + 1) (steps_of_thread t steps)) r
    -- (d) a thread's steps rise in stamp with its calls
    pub order : (i j : ℕ) (k l : Known O A) → get_elem? steps i ≡ some k → get_elem? steps j ≡ some l → k.entry.caller.thread ≡ l.entry.caller.thread → k.entry.caller.call < l.entry.caller.call → k.entry.stamp < l.entry.stamp

  -- what the scripts say of themselves: replies, and own entries
  pub record ScriptsKeepOrder (scripts : List (List C)) (replies : List (List R)) (owns : List (List (Known O A))) : Type 0 where
    pub count_replies : length replies ≡ length scripts
    pub count_owns : length owns ≡ length scripts
    pub made : (t : ℕ) (cs : List C) (rs : List R) (ks : List (Known O A)) → get_elem? scripts t ≡ some cs → get_elem? replies t ≡ some rs → get_elem? owns t ≡ some ks → AreCallsMade Walk t 1 [] cs rs ks
    pub rising : (t : ℕ) (ks : List (Known O A)) → get_elem? owns t ≡ some ks → StampsRise ks

  -- what the closed cells say, of entries by cell and of the passes' own
  pub record CellsAreLegal (opening : ℕ → S) (owns : List (List (Known O A))) (logs : ℕ → List (Entry O A)) (last : ℕ → S) (cells : ℕ) : Type 0 where
    pub rises : (c : ℕ) → c < cells → (i j : ℕ) (e f : Entry O A) → get_elem? (logs c) i ≡ some e → get_elem? (logs c) j ≡ some f → i < j → e.stamp < f.stamp
    pub answers : (c : ℕ) → c < cells → Replays after reply (opening c) (logs c)
    pub last_is : (c : ℕ) → c < cells → last c ≡ state_after after (opening c) (logs c)
    pub clock : ℕ
    pub once : (x : ℕ) → sum_below cells (λ c. count_with_stamp x (logs c)) ≡ one_if_below x clock
    pub runners : (c : ℕ) → c < cells → (i : ℕ) (e : Entry O A) → get_elem? (logs c) i ≡ some e → e.runner < length owns
    pub own : (t c : ℕ) (ks : List (Known O A)) → get_elem? owns t ≡ some ks → c < cells → entries_of_runner t (logs c) ≡ entries_at_cell c ks
    pub own_near : (t i : ℕ) (ks : List (Known O A)) (k : Known O A) → get_elem? owns t ≡ some ks → get_elem? ks i ≡ some k → k.cell < cells
