-- The rule of a target's table: the world that its words and its seats' views show is sound.
use Rattle.std.specs.Prelude.{◌≡◌, ◌≢◌, ℕ, ◌+◌, ◌<◌, ◌≤◌, Bool, true, false, IsTrue, Option, Some, None, List, map, length, count_by, drop, take, slice_index, slice_index_or, not, ◌==◌, ◌/◌, if◌then◌else◌}
use mathlib.Core.Option.{some}
use lib.ListN.{get_elem?}
use Rattle.atomic_table.specs.Table.{State}
use Rattle.task_ring.specs.Ring.{RingView}
use Rattle.proxy_laws.specs.declared.actors.Actor.{Actor}
use Rattle.proxy_laws.specs.declared.actors.Actor.TheVariants as actor
use Rattle.proxy_laws.specs.declared.actors.Look.{Look}
use Rattle.proxy_laws.specs.declared.actors.OwnerState.{OwnerState}
use Rattle.proxy_laws.specs.declared.actors.OwnerState.TheVariants as owner
use Rattle.proxy_laws.specs.declared.actors.Phase.{Phase}
use Rattle.proxy_laws.specs.declared.actors.Serving.{Serving}
use Rattle.proxy_laws.specs.declared.actors.Serving.TheVariants as serving
use Rattle.proxy_laws.specs.declared.events.Event.{Event}
use Rattle.proxy_laws.specs.declared.records.Job.{Job}
use Rattle.proxy_laws.specs.declared.records.Mark.{Mark}
use Rattle.proxy_laws.specs.Events.{Enabled, world_after}
use Rattle.proxy_laws.specs.Lists.{is_by, job_at}
use Rattle.proxy_laws.specs.Mailbox.{notices}
use Rattle.proxy_laws.specs.declared.actors.Note.TheVariants as note
use Rattle.proxy_laws.specs.Limits.{places_max, senders_max}
use Rattle.proxy_laws.specs.Maps.{bit, sum_below}
use Rattle.proxy_laws.specs.Phases.{has_turn_at}
use Rattle.proxy_laws.specs.Sound.{Sound}
use Rattle.proxy_laws.specs.Worlds.{WorldState, IsWellFormed}
use Rattle.post_core.specs.declared.slots.Item.{Item}
use Rattle.post_core.specs.declared.views.Entry.{Entry}
use Rattle.post_core.specs.declared.views.Fact.{Fact}
use Rattle.post_core.specs.declared.views.Fact.TheVariants as fact
use Rattle.post_core.specs.declared.views.Finding.{Finding}
use Rattle.post_core.specs.declared.views.OwnerView.{OwnerView}
use Rattle.post_core.specs.declared.views.PassView.{PassView}
use Rattle.post_core.specs.declared.views.View.{View}
use Rattle.post_core.specs.Kept.{listed, kept_by, marks_of}
use Rattle.post_core.specs.Records.{held_entry, held_job}
use Rattle.post_core.specs.Words.{WordsShow}

-- how many jobs were taken, by place
abbrev pub taken_in : WorldState → ℕ → ℕ
taken_in w p = length (w.jobs p)

-- the clones of uses that one pass makes at most
abbrev pub clones_max : ℕ
clones_max = 4294967296

module _ {M : Type 0} where
  -- What a pass says of its sender. Each part reads the fields of the world that it names, so that a step that
  -- changes others leaves it as it is.
  pub record PassDoes (n : ℕ) (phase : ℕ → Phase) (look : ℕ → Look) (uses : ℕ → ℕ → ℕ) (v : PassView M) : Type 0 where
    pub phase_is : phase v.number ≡ v.phase
    pub look_is : look v.number ≡ v.look
    pub uses_are : (p : ℕ) → p < n → uses v.number p ≡ slice_index v.uses p
    pub uses_wide : length v.uses ≡ n
    -- a place has one use at most that is no clone: the first one, or the one that came with its creation
    pub few_uses : (p : ℕ) → p < n → slice_index v.uses p ≤ 1 + v.clones
    pub few_clones : v.clones ≤ clones_max

  -- what it says of turns
  pub record PassTurns (n : ℕ) (turn : ℕ → Option Actor) (taken : ℕ → ℕ) (entries : ℕ → List (Entry M)) (v : PassView M) : Type 0 where
    pub turn_here : (p : ℕ) → p < n → turn p ≡ Some (actor.Sender v.number) → IsTrue (has_turn_at p v.phase)
    pub ring_is : (p : ℕ) → p < n → IsTrue (has_turn_at p v.phase) → v.ring ≡ drop (taken p) (entries p)

  -- what it keeps of its marks
  pub record PassOwns (n : ℕ) (entries : ℕ → List (Entry M)) (v : PassView M) : Type 0 where
    pub own_is : (p : ℕ) → p < n → listed v.own p ≡ kept_by v.number (entries p)
    pub own_wide : length v.own ≡ n

  -- what the owner's view says of it
  pub record OwnerDoes (n : ℕ) (state : OwnerState) (at_place : ℕ → Serving) (got : ℕ) (v : OwnerView M) : Type 0 where
    pub state_is : state ≡ v.state
    pub serving_is : (p : ℕ) → p < n → at_place p ≡ slice_index_or v.serving p serving.Away
    pub serving_wide : length v.serving ≡ n
    pub got_is : got ≡ v.got

  pub record OwnerTurns (n : ℕ) (turn : ℕ → Option Actor) (taken : ℕ → ℕ) (entries : ℕ → List (Entry M)) (v : OwnerView M) : Type 0 where
    pub turn_here : (p : ℕ) → p < n → turn p ≡ Some actor.Owner → v.turn ≡ Some p
    pub turn_held : (p : ℕ) → v.turn ≡ Some p → (p < n) × (turn p ≡ Some actor.Owner)
    pub ring_is : (p : ℕ) → v.turn ≡ Some p → v.ring ≡ drop (taken p) (entries p)

  pub record OwnerJobs (n : ℕ) (entries : ℕ → List (Entry M)) (jobs : ℕ → List Job) (v : OwnerView M) : Type 0 where
    pub jobs_are : (p : ℕ) → p < n → map held_job (listed v.jobs p) ≡ jobs p
    pub marks_are : (p : ℕ) → p < n → map held_entry (listed v.jobs p) ≡ take (length (listed v.jobs p)) (entries p)
    pub jobs_wide : length v.jobs ≡ n

  -- what it has found in the mailbox
  pub record OwnerMail (n : ℕ) (state : OwnerState) (mail : ℕ → Bool) (v : OwnerView M) : Type 0 where
    -- a word that it found empty once it was closed has no notice any more
    pub clear : (word : ℕ) → slice_index_or v.clear word false ≡ true → (state ≡ owner.Closed) × ((p : ℕ) → p / 64 ≡ word → mail p ≡ false)
    -- a notice that it found is there until it takes it
    pub noticed : (p : ℕ) → v.noticed ≡ Some p → (p < n) × (mail p ≡ true)

  -- what was seen is so
  abbrev pub IsSo : (n refs : ℕ) → (ℕ → List (Entry M)) → (ℕ → List Job) → Fact M → Type 0
  IsSo n refs entries jobs fact.NoReferences = refs ≡ 0
  IsSo n refs entries jobs (fact.Settled p k mark meaning f) = (p < n) × (get_elem? (entries p) k ≡ some (record { mark = mark; meaning = meaning })) × (k < length (jobs p)) × ((job_at (jobs p) k).fate ≡ Some f)
  IsSo n refs entries jobs (fact.Reached p count) = (p < n) × (count ≤ length (entries p))

  pub record PassFits (w : WorldState) (entries : ℕ → List (Entry M)) (seat : ℕ → ℕ) (j : ℕ) (v : PassView M) : Type 0 where
    pub near : v.number < w.senders
    pub sits : seat v.number ≡ j
    pub does : PassDoes w.places w.phase w.look w.uses v
    pub turns : PassTurns w.places w.turn (taken_in w) entries v
    pub owns : PassOwns w.places entries v

  pub record OwnerFits (w : WorldState) (entries : ℕ → List (Entry M)) (v : OwnerView M) : Type 0 where
    pub does : OwnerDoes w.places w.owner w.serving w.got v
    pub turns : OwnerTurns w.places w.turn (taken_in w) entries v
    pub jobs : OwnerJobs w.places entries w.jobs v
    pub clears : OwnerMail w.places w.owner w.mail v

  -- What a pass says of the places that its sender created and set free, and of those that it found not free. By then
  -- each of these had been created once more than it was set free, whoever did so.
  pub record PassLives (n : ℕ) (created freed : ℕ → ℕ → ℕ) (all_created : ℕ → ℕ) (v : PassView M) : Type 0 where
    pub created_are : (p : ℕ) → p < n → created v.number p ≡ slice_index v.created p
    pub freed_are : (p : ℕ) → p < n → freed v.number p ≡ slice_index v.freed p
    pub created_wide : length v.created ≡ n
    pub freed_wide : length v.freed ≡ n
    pub found : (k : ℕ) (x : Finding) → get_elem? v.full k ≡ some x → (x.place < n) × (1 + x.freed + slice_index v.created x.place ≤ x.created + all_created x.place)

  -- each pass of each seat
  abbrev pub EachPass : (PassView M → Type 0) → List (View M) → Type 0
  EachPass P views = (j : ℕ) (v : View M) → get_elem? views j ≡ some v → (k : ℕ) (pass : PassView M) → get_elem? v.passes k ≡ some pass → P pass

  -- A place other than 0 was created as often as it was set free, and once more where it is live.
  pub record Tally (senders places : ℕ) (life : ℕ → ℕ) (views : List (View M)) : Type 0 where
    pub created : ℕ → ℕ → ℕ
    pub freed : ℕ → ℕ → ℕ
    pub balanced : (p : ℕ) → p < places → p ≢ 0 → sum_below senders (λ s. created s p) ≡ sum_below senders (λ s. freed s p) + bit (not (life p == 0))
    pub each : EachPass (PassLives places created freed (λ p. sum_below senders (λ s. created s p))) views

  -- seat j has the pass of sender t
  pub record HasPass (views : List (View M)) (j t : ℕ) : Type 0 where
    pub view : View M
    pub at : get_elem? views j ≡ some view
    pub place : ℕ
    pub pass : PassView M
    pub there : get_elem? view.passes place ≡ some pass
    pub number : pass.number ≡ t

  pub record HasOwner (views : List (View M)) (j : ℕ) : Type 0 where
    pub view : View M
    pub at : get_elem? views j ≡ some view
    pub own : OwnerView M
    pub is : view.owner ≡ Some own

  -- each sender has its pass, and there is the owner
  pub record AreThere (senders : ℕ) (seat : ℕ → ℕ) (chief : ℕ) (views : List (View M)) : Type 0 where
    pub passes : (t : ℕ) → t < senders → HasPass views (seat t) t
    pub owner : HasOwner views chief

  -- What the view of seat j says of the world. Of a sender, and of the owner, one seat alone speaks.
  pub record Fits (w : WorldState) (entries : ℕ → List (Entry M)) (seat : ℕ → ℕ) (chief j : ℕ) (v : View M) : Type 0 where
    pub passes : (k : ℕ) (pass : PassView M) → get_elem? v.passes k ≡ some pass → PassFits w entries seat j pass
    pub apart : (k m : ℕ) (a b : PassView M) → get_elem? v.passes k ≡ some a → get_elem? v.passes m ≡ some b → a.number ≡ b.number → k ≡ m
    pub owner : (o : OwnerView M) → v.owner ≡ Some o → (chief ≡ j) × OwnerFits w entries o
    pub seen : (k : ℕ) (f : Fact M) → get_elem? v.seen k ≡ some f → IsSo w.places w.refs entries w.jobs f

  module _ {J : Type 0} (meaning : J → M) (suits : ℕ → Mark → M → Type 0) (senders places : ℕ) where
    abbrev pub meant : Item J → Entry M
    meant item = record { mark = item.mark; meaning = meaning item.job }

    -- the rings that are at home hold what waits
    pub record SlotsHold (turn : ℕ → Option Actor) (taken : ℕ → ℕ) (entries : ℕ → List (Entry M)) (homes : List (mathlib.Core.Option.Option (RingView (Item J)))) : Type 0 where
      pub wide : length homes ≡ places
      pub ring_is : (p : ℕ) → p < places → turn p ≡ None → (r : RingView (Item J)) × (get_elem? homes p ≡ some (some r)) × (map meant r.items ≡ drop (taken p) (entries p))

    -- the world has these sizes, and no number of it wraps
    pub record IsSized (w : WorldState) : Type 0 where
      pub places_are : w.places ≡ places
      pub senders_are : w.senders ≡ senders
      pub some_place : 0 < places
      pub few_places : places ≤ places_max
      pub few_senders : senders ≤ senders_max
      pub few_marks : (p s : ℕ) → count_by (is_by s) (w.sent p) ≤ 281474976710656

    -- The table shows a sound world: words give its numbers, passes and the owner's view the rest.
    pub record Shown (s : State (RingView (Item J)) (View M)) : Type 0 where
      pub world : WorldState
      pub entries : ℕ → List (Entry M)
      -- the seat that speaks for a sender, and the owner's
      pub seat : ℕ → ℕ
      pub chief : ℕ
      pub sized : IsSized world
      pub sound : Sound world
      pub formed : IsWellFormed world
      pub marks : (p : ℕ) → marks_of (entries p) ≡ world.sent p
      pub suited : (p n : ℕ) (e : Entry M) → get_elem? (entries p) n ≡ some e → suits p e.mark e.meaning
      pub words : WordsShow places world.refs world.turn world.sent (taken_in world) world.note world.life world.mail s.words
      -- the mailbox's note is pending exactly where some word of the mailbox has a notice
      pub mail_noted : world.mail_note ≡ (if notices world.places world.mail == 0 then note.None else note.Pending)
      pub slots : SlotsHold world.turn (taken_in world) entries s.homes
      pub views : (j : ℕ) (v : View M) → get_elem? s.views j ≡ some v → Fits world entries seat chief j v
      pub tally : Tally senders places world.life s.views
      pub there : AreThere senders seat chief s.views

    -- The step is the event: it may come in the world shown before, and the world shown after is the one it leaves.
    abbrev pub IsEvent : (s : State (RingView (Item J)) (View M)) → Shown s → Event → State (RingView (Item J)) (View M) → Type 0
    IsEvent s r e after = Enabled r.world e × ((r' : Shown after) × (r'.world ≡ world_after r.world e))
