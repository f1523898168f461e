-- What each step on the life of a place tells the seat of its pass, and what the calls on places come to.
use Rattle.std.specs.Prelude.{◌≡◌, ◌≢◌, ℕ, zero, suc, ◌+◌, ◌-◌, Option, Some, None, List, slice_index, slice_set}
use Rattle.atomic_table.specs.Table.{Me, Step}
use Rattle.task_ring.specs.Ring.{RingView}
use Rattle.proxy_laws.specs.declared.actors.Look.TheVariants as look
use Rattle.proxy_laws.specs.declared.actors.Note.{Note}
use Rattle.proxy_laws.specs.Phases.{life_after_mark, look_after_release, note_word}
use Rattle.post_core.specs.declared.slots.Item.{Item}
use Rattle.post_core.specs.declared.views.View.{View}
use Rattle.post_core.specs.Views.{pass_of, place_created, place_found, with_pass}

-- how often a pass set each place free, once it has marked the life of p so
abbrev pub freed_after : ℕ → ℕ → List ℕ → List ℕ
freed_after zero p freed = slice_set freed p (slice_index freed p + 1)
freed_after (suc life) p freed = freed

module _ {M : Type 0} where
  -- a pass clones a use of p
  abbrev pub use_cloned : ℕ → View M → View M
  use_cloned p v = let pass = pass_of v in with_pass v (record pass { uses = slice_set pass.uses p (slice_index pass.uses p + 1); clones = pass.clones + 1 })

  -- a pass gives a use of p back, and looks at p where that was the last
  abbrev pub use_dropped : ℕ → View M → View M
  use_dropped p v = let pass = pass_of v in with_pass v (record pass {
    uses = slice_set pass.uses p (slice_index pass.uses p - 1);
    look = look_after_release (slice_index pass.uses p + 1) p pass.look;
  })

  -- a pass tries to claim p, and looks at p where that was a zombie
  abbrev pub place_tried : ℕ → View M → View M
  place_tried p v = let pass = pass_of v in with_pass v (record pass { tried = slice_set pass.tried p (slice_index pass.tried p + 1) })

  abbrev pub place_claimed : ℕ → View M → View M
  place_claimed p v = let pass = pass_of v in with_pass v (record pass { tried = slice_set pass.tried p (slice_index pass.tried p + 1); look = look.At p })

  -- a pass sees the note of the place that it looks at
  abbrev pub note_looked : ℕ → Note → View M → View M
  note_looked p n v = with_pass v (record (pass_of v) { look = look.Saw p n })

  -- a pass marks the life of the place that it looks at by the note that it saw there
  abbrev pub life_marked : ℕ → View M → View M
  life_marked p v = let pass = pass_of v in with_pass v (record pass { look = look.Nowhere; freed = freed_after (life_after_mark pass.look) p pass.freed })

  -- What the calls come to.
  -- a pass that looks at p sees this note there, and marks p's life by it: p is free where the note was none
  abbrev pub look_ended : ℕ → Note → View M → View M
  look_ended p n v = life_marked p (note_looked p n v)

  -- a pass has tried to claim p and, where it was a zombie, has looked at p and seen this note
  abbrev pub place_culled : ℕ → Option Note → View M → View M
  place_culled p None v = place_tried p v
  place_culled p (Some n) v = look_ended p n (place_claimed p v)

  -- from v on, the pass has tried to claim each of the places 1 to n in turn, and looked at the zombies among them
  abbrev pub IsCulled : ℕ → View M → View M → Type 0
  IsCulled zero v after = after ≡ v
  IsCulled (suc n) v after = (before : View M) × (seen : Option Note) × IsCulled n v before × (after ≡ place_culled (suc n) seen before)

  -- the pass has found each of the places 1 to n not free, in turn
  abbrev pub all_found : ℕ → View M → View M
  all_found zero v = v
  all_found (suc n) v = place_found (suc n) (all_found n v)

module _ {J M : Type 0} where
  -- The plays. Each says the whole of the seat after.
  -- a pass clones a use of p
  abbrev pub cloned_use : ℕ → Step (RingView (Item J)) → Me (RingView (Item J)) (View M) → ℕ → Me (RingView (Item J)) (View M) → Type 0
  cloned_use p st m found m' = m' ≡ (use_cloned p m.0, m.1)

  -- a pass gives a use of p back, and finds its own uses in the life of p
  abbrev pub dropped_use : ℕ → Step (RingView (Item J)) → Me (RingView (Item J)) (View M) → ℕ → Me (RingView (Item J)) (View M) → Type 0
  dropped_use p st m found m' = (found ≡ 2 + slice_index (pass_of m.0).uses p) × (m' ≡ (use_dropped p m.0, m.1))

  -- a pass tries to claim p
  abbrev pub tried_claim : ℕ → Step (RingView (Item J)) → Me (RingView (Item J)) (View M) → ℕ → Me (RingView (Item J)) (View M) → Type 0
  tried_claim p st m found m' = (found ≡ 1 → m' ≡ (place_claimed p m.0, m.1)) × (found ≢ 1 → m' ≡ (place_tried p m.0, m.1))

  -- a pass loads the note of the place that it looks at
  abbrev pub looked_note : ℕ → Step (RingView (Item J)) → Me (RingView (Item J)) (View M) → ℕ → Me (RingView (Item J)) (View M) → Type 0
  looked_note p st m found m' = (note : Note) × (found ≡ note_word note) × (m' ≡ (note_looked p note m.0, m.1))

  -- a pass marks the life of the place that it looks at
  abbrev pub marked_life : ℕ → Step (RingView (Item J)) → Me (RingView (Item J)) (View M) → ℕ → Me (RingView (Item J)) (View M) → Type 0
  marked_life p st m found m' = m' ≡ (life_marked p m.0, m.1)

  -- a pass tries to create p, of which it then has one use
  abbrev pub tried_create : ℕ → Step (RingView (Item J)) → Me (RingView (Item J)) (View M) → ℕ → Me (RingView (Item J)) (View M) → Type 0
  tried_create p st m found m' = (found ≡ 0 → (m' ≡ (place_created p m.0, m.1)) × (slice_index (pass_of (place_created p m.0)).uses p ≡ 1)) × (found ≢ 0 → m' ≡ (place_found p m.0, m.1))
