-- What each step of a table tells the seat that takes it.
use Rattle.atomic_table.specs.Seated.{TableId}
use Rattle.post_core.specs.Words.{word_count}
use Rattle.std.specs.Prelude.{◌≡◌, ℕ, ◌^◌, ◌<◌, Some, None, List, [], length, slice_get, map, ◌≢◌, ◌∷◌}
use Rattle.atomic_table.specs.Table.{Me, Step, rest}
use Rattle.task_ring.specs.Ring.{RingView}
use Rattle.post_core.specs.declared.slots.Item.{Item}
use Rattle.post_core.specs.declared.views.Entry.{Entry}
use Rattle.proxy_laws.specs.declared.records.Mark.{Mark}
use Rattle.proxy_laws.specs.declared.records.FateMark.{FateMark}
use Rattle.post_core.specs.declared.views.Held.{Held}
use Rattle.post_core.specs.declared.views.View.{View}
use Rattle.post_core.specs.Kept.{listed}
use Rattle.post_core.specs.Views.{job_settled, job_taken, owner_of, turn_given, turn_taken}

-- the seat is one of the table, which has the words of so many places
abbrev pub IsOneTable : TableId → TableId → ℕ → Type 0
IsOneTable seat table places = (seat ≡ table) × (table.words ≡ word_count places)

-- the first of these jobs, if there is one, suits its mark
abbrev pub FirstSuits : {M : Type 0} → (Mark → M → Type 0) → List (Entry M) → Type 0
FirstSuits {M} suits entries = (e : Entry M) (rest : List (Entry M)) → entries ≡ e ∷ rest → suits e.mark e.meaning

module _ {J M : Type 0} where
  -- The plays. Each says the whole of the seat after.
  -- the owner counts the first job of p's ring as taken, which suits its mark
  abbrev pub took_job : (ℕ → Mark → M → Type 0) → ℕ → Step (RingView (Item J)) → Me (RingView (Item J)) (View M) → ℕ → Me (RingView (Item J)) (View M) → Type 0
  took_job suits p st m found m' = (found ≡ length (listed (owner_of m.0).jobs p)) × (found < 2 ^ 63) × FirstSuits (suits p) (owner_of m.0).ring × (m' ≡ (job_taken p m.0, m.1))

  -- the owner settles job number n of p
  abbrev pub settled_job : ℕ → ℕ → FateMark → Step (RingView (Item J)) → Me (RingView (Item J)) (View M) → ℕ → Me (RingView (Item J)) (View M) → Type 0
  settled_job p n f st m found m' = m' ≡ (job_settled p n f m.0, m.1)

-- job number n of these was taken, and is not settled
abbrev pub IsActiveHere : {M : Type 0} → List (Held M) → ℕ → Type 0
IsActiveHere {M} held n = (n < length held) × ((h : Held M) × (slice_get held n ≡ Some h) × (h.fate ≡ None))

-- what the items of a ring mean
abbrev pub all_meant : {J M : Type 0} → (J → M) → List (Item J) → List (Entry M)
all_meant meaning items = map (λ item. record { mark = item.mark; meaning = meaning item.job }) items

module _ {J M : Type 0} (meaning : J → M) where
  -- the slot taken last is that of p, whose ring means these
  abbrev pub HoldsRing : ℕ → List (Entry M) → List (ℕ × RingView (Item J)) → Type 0
  HoldsRing p entries held = (ring : RingView (Item J)) × (held ≡ (p, ring) ∷ rest held) × (all_meant meaning ring.items ≡ entries)

  -- the owner has taken the turn of p, with its ring
  abbrev pub HasTakenTurn : ℕ → Me (RingView (Item J)) (View M) → Me (RingView (Item J)) (View M) → Type 0
  HasTakenTurn p m m' = (ring : RingView (Item J)) × (m' ≡ (turn_taken p (all_meant meaning ring.items) m.0, (p, ring) ∷ m.1))

  -- the owner tries to take the turn of p, and has its ring where that was free
  abbrev pub took_place : ℕ → Step (RingView (Item J)) → Me (RingView (Item J)) (View M) → ℕ → Me (RingView (Item J)) (View M) → Type 0
  took_place p st m found m' = (found ≡ 0 → HasTakenTurn p m m') × (found ≢ 0 → m' ≡ m)

-- the owner has taken the turn of p, and no job waits in its ring
abbrev pub HasEmptyTurn : {J M : Type 0} → ℕ → View M → Me (RingView (Item J)) (View M) → Type 0
HasEmptyTurn {J} p v m = (ring : RingView (Item J)) × (ring.items ≡ []) × (m ≡ (turn_taken p [] v, (p, ring) ∷ []))

-- the owner gives the turn back with the slot that it took last
abbrev pub gave_place : {J M : Type 0} → Step (RingView (Item J)) → Me (RingView (Item J)) (View M) → ℕ → Me (RingView (Item J)) (View M) → Type 0
gave_place st m found m' = m' ≡ (turn_given m.0, rest m.1)
