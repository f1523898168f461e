-- What the end of a target's table tells.
use Rattle.post_core.specs.declared.slots.Item.{Item}
use Rattle.task_ring.specs.Ring.{RingView}
use Rattle.std.specs.Prelude.{◌≡◌, ℕ, ◌+◌, ◌<◌, ◌≤◌, All, List, [], ◌∷◌, length, map, slice_index, slice_index_or}
use mathlib.Core.Option.{some}
use lib.ListN.{get_elem?}
use Rattle.proxy_laws.specs.declared.records.PostRecord.{PostRecord}
use Rattle.proxy_laws.specs.Fates.{jobs_of}
use Rattle.proxy_laws.specs.Sound.{Sound}
use Rattle.proxy_laws.specs.Worlds.{WorldState, IsWellFormed}
use Rattle.proxy_laws.specs.OwnMarks.{own_marks}
use Rattle.post_core.specs.declared.meant.Meant.{Ghosts}
use Rattle.post_core.specs.declared.owner.Emptied.{Emptied}
use Rattle.post_core.specs.declared.post.Post.{Post}
use Rattle.post_core.specs.declared.post.SendPass.{SendPass}
use Rattle.post_core.specs.OwnerViews.{IsEmptiedOf}
use Rattle.post_core.specs.SendParts.{IsPassOf, pass_sender, post_senders}
use Rattle.post_core.specs.declared.views.Entry.{Entry}
use Rattle.post_core.specs.declared.views.Fact.{Fact}
use Rattle.post_core.specs.declared.views.Fact.TheVariants as fact
use Rattle.post_core.specs.declared.views.View.{View}
use Rattle.post_core.specs.Kept.{listed, marks_of}
use Rattle.post_core.specs.Records.{blank_job, own_mark}
use Rattle.proxy_laws.specs.Maps.{sum_below}
use Rattle.post_core.specs.declared.views.Finding.{Finding}
use Rattle.post_core.specs.declared.views.PassView.{PassView}
use Rattle.post_core.specs.Rule.{Fits, PassLives}
use Rattle.post_core.specs.Views.{joined, pass_of}
use Rattle.proxy_laws.specs.Limits.{places_max}

-- the ring has no item, so it may be freed
abbrev pub IsIdle : {J : Type 0} → RingView (Item J) → Type 0
IsIdle r = r.items ≡ []

abbrev pub total_of : List ℕ → ℕ
total_of [] = 0
total_of (x ∷ xs) = x + total_of xs

-- the numbers are 0, 1, 2 and so on, n of them
abbrev pub AreEach : ℕ → List ℕ → Type 0
AreEach n xs = (length xs ≡ n) × ((k : ℕ) → k < n → slice_index xs k ≡ k)

module _ {M : Type 0} where
  -- a view with which the others were joined, the last first
  abbrev pub all_joined : View M → List (View M) → View M
  all_joined v [] = v
  all_joined v (u ∷ us) = joined (all_joined v us) u

  -- there was a sound world with this view of it
  pub record Ended (senders places : ℕ) (v : View M) : Type 0 where
    pub world : WorldState
    pub entries : ℕ → List (Entry M)
    pub seat : ℕ → ℕ
    pub chief : ℕ
    pub id : ℕ
    pub places_are : world.places ≡ places
    pub few_places : world.places ≤ places_max
    pub senders_are : world.senders ≡ senders
    pub sound : Sound world
    pub formed : IsWellFormed world
    pub marks : (p : ℕ) → marks_of (entries p) ≡ world.sent p
    pub fits : Fits world entries seat chief id v
    pub created : ℕ → ℕ → ℕ
    pub freed : ℕ → ℕ → ℕ
    pub lives : (k : ℕ) (pass : PassView M) → get_elem? v.passes k ≡ some pass → PassLives places created freed (λ p. sum_below senders (λ s. created s p)) pass

  -- Each time that the pass found a place not free, the passes with these views had created it, by the end, so often
  -- that the others did at least 1 + f - c times, where the pass had by then freed it f times and created it c times.
  abbrev pub FoundTaken : List (View M) → View M → Type 0
  FoundTaken views v = (k : ℕ) (x : Finding) → get_elem? (pass_of v).full k ≡ some x → 1 + x.freed + slice_index (pass_of v).created x.place ≤ x.created + total_of (map (λ u. slice_index (pass_of u).created x.place) views)

  -- the record says it too
  abbrev pub IsInRecord : PostRecord → Fact M → Type 0
  IsInRecord r fact.NoReferences = Unit {0}
  IsInRecord r (fact.Settled p n mark meaning f) = (n < length (jobs_of r p)) × ((slice_index_or (jobs_of r p) n blank_job).mark ≡ mark) × ((slice_index_or (jobs_of r p) n blank_job).fate ≡ f)
  IsInRecord r (fact.Reached p count) = count ≤ length (jobs_of r p)

  -- the record agrees with a pass: with its marks and their numbers, which are all of its sender, and with what it has seen
  pub record AgreesWithPass (r : PostRecord) (v : View M) : Type 0 where
    pub own : (p : ℕ) → p < length r.places.items → map own_mark (listed (pass_of v).own p) ≡ own_marks (pass_of v).number (map (λ job. job.mark) (jobs_of r p))
    pub seen : (k : ℕ) (f : Fact M) → get_elem? v.seen k ≡ some f → IsInRecord r f

-- The end of the owner and the passes are of this post's table, and there is a pass of each sender, in the order of senders.
pub record AreAllParts {J M : Type 0} {g : Ghosts J M} (post : Post J M) (emptied : Emptied J M g) (passes : List (SendPass J M g)) : Type 0 where
  pub owner : IsEmptiedOf post emptied
  pub tables : All (λ pass. IsPassOf post pass) passes
  pub each : AreEach (post_senders post) (map (λ pass. pass_sender pass) passes)
