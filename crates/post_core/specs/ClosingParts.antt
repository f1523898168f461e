-- What an owner holds that closes its target, and what its calls say.
use Rattle.std.specs.Prelude.{◌≡◌, ◌≢◌, ℕ, ◌<◌, IsTrue, false, true, Option, Some, None, [], List, length, slice_index, slice_index_or}
use Rattle.proxy_laws.specs.declared.actors.OwnerState.{OwnerState}
use Rattle.proxy_laws.specs.declared.actors.OwnerState.TheVariants as owner
use Rattle.proxy_laws.specs.declared.actors.Serving.TheVariants as serving
use Rattle.proxy_laws.specs.Phases.{is_working}
use Rattle.post_core.specs.declared.records.StartedJob.{StartedJob}
use Rattle.post_core.specs.declared.views.View.{View}
use Rattle.post_core.specs.Kept.{listed}
use Rattle.post_core.specs.Records.{IsKept}
use Rattle.post_core.specs.ServingSteps.{WorksAt, serving_at}
use Rattle.post_core.specs.Views.{IsOwnerView, owner_of}

module _ {M : Type 0} where
  -- the owner may take jobs of the place that is left to empty once it is closed, and is at no other
  abbrev pub IsAtLeft : Option ℕ → View M → Type 0
  IsAtLeft left v = ((p : ℕ) → left ≡ Some p → IsTrue (is_working owner.Closed (serving_at p v)))
      × ((q : ℕ) → left ≢ Some q → serving_at q v ≡ serving.Away)

  -- a closed owner may empty p: it has no turn, and works there
  pub record MayEmpty (p : ℕ) (v : View M) : Type 0 where
    pub view : IsOwnerView v
    pub closed : (owner_of v).state ≡ owner.Closed
    pub no_turn : (owner_of v).turn ≡ None
    pub works : WorksAt p v
    pub row : p < length (owner_of v).jobs

  -- The view is that of an owner in this state that has no turn and got so many notices. It keeps these jobs by place, and no
  -- job that it took once it was closed is active.
  pub record IsEnding (state : OwnerState) (left : Option ℕ) (started : List (List StartedJob)) (taken : List ℕ) (got : ℕ) (v : View M) : Type 0 where
    pub view : IsOwnerView v
    pub state_is : (owner_of v).state ≡ state
    pub at_left : IsAtLeft left v
    pub no_turn : (owner_of v).turn ≡ None
    pub no_ring : (owner_of v).ring ≡ []
    pub none_noticed : (owner_of v).noticed ≡ None
    pub got_is : (owner_of v).got ≡ got
    pub wide : length (owner_of v).serving ≡ length taken
    pub rows : length (owner_of v).jobs ≡ length taken
    pub words : length (owner_of v).clear ≡ 4
    pub kept : (p : ℕ) → p < length taken → IsKept (listed (owner_of v).jobs p) (listed started p) (slice_index taken p)

  -- the owner is closed, at no place, and has found each word of the mailbox 0 since it was closed
  pub record HasEmptied (v : View M) : Type 0 where
    pub closed : (owner_of v).state ≡ owner.Closed
    pub away : (p : ℕ) → serving_at p v ≡ serving.Away
    pub clear : (word : ℕ) → word < 4 → slice_index_or (owner_of v).clear word false ≡ true
