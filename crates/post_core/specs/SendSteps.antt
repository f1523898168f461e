-- What each step of a sender tells the seat of its pass.
use Rattle.std.specs.Prelude.{◌≡◌, ◌≢◌, ℕ, ◌+◌, ◌<◌, ◌≤◌, Bool, true, false, Option, Some, None, List, [], ◌∷◌, ◌++◌, length, slice_set}
use Rattle.std.specs.List.{list_any}
use mathlib.Core.Option.{some}
use lib.ListN.{get_elem?}
use Rattle.atomic_table.specs.Table.{Me, Step, rest}
use Rattle.task_ring.specs.Ring.{RingView}
use Rattle.proxy_laws.specs.declared.actors.Note.{Note}
use Rattle.proxy_laws.specs.declared.actors.Phase.TheVariants as phase
use Rattle.proxy_laws.specs.declared.records.FateMark.TheVariants as fate
use Rattle.proxy_laws.specs.declared.records.Mark.{Mark}
use Rattle.proxy_laws.specs.Phases.{note_word, phase_after_give, phase_after_swap}
use Rattle.post_core.specs.declared.slots.Item.{Item}
use Rattle.post_core.specs.declared.views.Entry.{Entry}
use Rattle.post_core.specs.declared.views.Fact.{Fact}
use Rattle.post_core.specs.declared.views.Fact.TheVariants as fact
use Rattle.post_core.specs.declared.views.Kept.{Kept}
use Rattle.post_core.specs.declared.views.View.{View}
use Rattle.post_core.specs.Kept.{kept, listed}
use Rattle.post_core.specs.Steps.{all_meant}
use Rattle.post_core.specs.Views.{at_phase, job_put, pass_of, with_pass}

-- the references of a target at most: one for each of 64 senders, and the owner's
abbrev pub references_max : ℕ
references_max = 65

-- the jobs that one pass puts at one place at most
abbrev pub own_marks_max : ℕ
own_marks_max = 281474976710656

module _ {M : Type 0} where
  -- the fact says that the target takes no more jobs
  abbrev pub says_closed : Fact M → Bool
  says_closed fact.NoReferences = true
  says_closed (fact.Settled _ _ _ _ fate.Cancelled) = true
  says_closed _ = false

  -- the seat has seen that the target takes no more jobs: that it has no reference, or that a job of it was cancelled
  abbrev pub has_seen_closed : View M → Bool
  has_seen_closed v = list_any says_closed v.seen

  -- the pass has found that the target has no reference
  abbrev pub none_seen : View M → View M
  none_seen v = record v { seen = v.seen ++ fact.NoReferences ∷ [] }

  -- the pass has the turn of p, whose ring holds these, or gives it back
  abbrev pub place_taken : ℕ → List (Entry M) → View M → View M
  place_taken p ring v = with_pass v (record (pass_of v) { phase = phase.Holding p; ring = ring })

  abbrev pub place_given : ℕ → View M → View M
  place_given p v = with_pass v (record (pass_of v) { phase = phase_after_give p (pass_of v).phase; ring = [] })

  -- The pass has put this job at p, which is number n there, has given the turn back, and owes a notification. It keeps
  -- the mark, and has seen that so many jobs were put there.
  abbrev pub job_sent : ℕ → ℕ → Entry M → View M → View M
  job_sent p n e v = let pass = pass_of v in record v {
    passes = record pass {
      phase = phase.Owing p;
      own = slice_set pass.own p (listed pass.own p ++ kept n e ∷ []);
      ring = [];
    } ∷ [];
    seen = v.seen ++ fact.Reached p (n + 1) ∷ [];
  }

  -- the mark is that of the pass's next job at p
  abbrev pub IsNextMark : ℕ → Mark → View M → Type 0
  IsNextMark p mark v = (mark.sender ≡ (pass_of v).number) × (mark.seq ≡ length (listed (pass_of v).own p))

  -- The number n comes after each number that the pass keeps of a job at p, and no count of the jobs put at p that the
  -- pass has seen is greater.
  pub record IsNextAt (p n : ℕ) (v : View M) : Type 0 where
    pub own : (k : ℕ) (x : Kept M) → get_elem? (listed (pass_of v).own p) k ≡ some x → x.nth < n
    pub seen : (k count : ℕ) → get_elem? v.seen k ≡ some (fact.Reached p count) → count ≤ n

-- the job that was pushed last
abbrev pub last_pushed : {X : Type 0} → List X → Option X
last_pushed [] = None
last_pushed (x ∷ []) = Some x
last_pushed (x ∷ y ∷ ys) = last_pushed (y ∷ ys)

-- the job that was pushed last into the ring that a seat holds
abbrev pub last_held : {J : Type 0} → List (ℕ × RingView (Item J)) → Option (Item J)
last_held [] = None
last_held (slot ∷ slots) = last_pushed slot.1.items

module _ {J M : Type 0} where
  -- The plays. Each says the whole of the seat after.
  -- a pass looks how many references there are
  abbrev pub loaded_refs : Step (RingView (Item J)) → Me (RingView (Item J)) (View M) → ℕ → Me (RingView (Item J)) (View M) → Type 0
  loaded_refs st m found m' = (found ≤ references_max) × (found ≡ 0 → m' ≡ (none_seen m.0, m.1)) × (found ≢ 0 → m' ≡ m)

  -- a pass adds a reference where there are as many as it expects, and else has looked how many there are
  abbrev pub added_ref : Step (RingView (Item J)) → Me (RingView (Item J)) (View M) → ℕ → Me (RingView (Item J)) (View M) → Type 0
  added_ref st m found m' = (found ≡ st.first → (has_seen_closed m.0 ≡ false) × (m' ≡ (at_phase phase.Referenced m.0, m.1))) × (found ≢ st.first → loaded_refs st m found m')

  -- a pass drops its reference
  abbrev pub dropped_ref : Step (RingView (Item J)) → Me (RingView (Item J)) (View M) → ℕ → Me (RingView (Item J)) (View M) → Type 0
  dropped_ref st m found m' = m' ≡ (at_phase phase.Idle m.0, m.1)

  -- a pass that owes a notification at p swaps p's note
  abbrev pub swapped_note : ℕ → Step (RingView (Item J)) → Me (RingView (Item J)) (View M) → ℕ → Me (RingView (Item J)) (View M) → Type 0
  swapped_note p st m found m' = (note : Note) × (found ≡ note_word note) × (m' ≡ (at_phase (phase_after_swap p note) m.0, m.1))

  -- a pass gives the turn of p back with the slot that it took last
  abbrev pub sender_gave_place : ℕ → Step (RingView (Item J)) → Me (RingView (Item J)) (View M) → ℕ → Me (RingView (Item J)) (View M) → Type 0
  sender_gave_place p st m found m' = m' ≡ (place_given p m.0, rest m.1)

module _ {J M : Type 0} (meaning : J → M) where
  abbrev pub meant_item : Item J → Entry M
  meant_item item = record { mark = item.mark; meaning = meaning item.job }

  -- a pass has taken the turn of p, with its ring
  abbrev pub SenderHasTurn : ℕ → Me (RingView (Item J)) (View M) → Me (RingView (Item J)) (View M) → Type 0
  SenderHasTurn p m m' = (ring : RingView (Item J)) × (m' ≡ (place_taken p (all_meant meaning ring.items) m.0, (p, ring) ∷ m.1))

  -- a pass tries to take the turn of p, and has its ring where that was free
  abbrev pub sender_took_place : ℕ → Step (RingView (Item J)) → Me (RingView (Item J)) (View M) → ℕ → Me (RingView (Item J)) (View M) → Type 0
  sender_took_place p st m found m' = (found ≡ 0 → SenderHasTurn p m m') × (found ≢ 0 → m' ≡ m)

  -- a pass counts the job that it pushed into p's ring as put
  abbrev pub counted_put : ℕ → Step (RingView (Item J)) → Me (RingView (Item J)) (View M) → ℕ → Me (RingView (Item J)) (View M) → Type 0
  counted_put p st m found m' = IsNextAt p found m.0 × ((item : Item J) → last_held m.1 ≡ Some item → m' ≡ (job_put p found (meant_item item) m.0, m.1))
