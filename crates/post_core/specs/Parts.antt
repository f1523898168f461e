-- What the parts of a target hold of its table.
use Rattle.std.specs.Prelude.{◌≡◌, ◌≢◌, ℕ, ◌<◌, Bool, [], true, false, Option, Some, None, List, map, length, slice_get, slice_index, slice_index_or, slice_set}
use Rattle.proxy_laws.specs.declared.actors.Look.TheVariants as look
use Rattle.proxy_laws.specs.declared.actors.OwnerState.TheVariants as owner
use Rattle.proxy_laws.specs.declared.actors.Phase.{Phase}
use Rattle.proxy_laws.specs.declared.actors.Serving.TheVariants as serving
use Rattle.proxy_laws.specs.declared.records.FateMark.{FateMark}
use Rattle.proxy_laws.specs.declared.records.OwnMark.{OwnMark}
use Rattle.post_core.specs.declared.records.StartedJob.{StartedJob}
use Rattle.post_core.specs.declared.views.View.{View}
use Rattle.post_core.specs.Kept.{listed}
use Rattle.post_core.specs.Records.{IsKept, own_mark, started_job}
use Rattle.post_core.specs.ServingSteps.{serving_at}
use Rattle.proxy_laws.specs.declared.actors.Serving.{Serving}
use Rattle.proxy_laws.specs.declared.records.Started.{Started}
use Rattle.proxy_laws.specs.declared.records.Started.TheVariants as started
use Rattle.post_core.specs.Views.{IsPassView, IsOwnerView, pass_of, owner_of}

module _ {M : Type 0} where
  -- the view is that of this sender in this phase, which keeps these marks by place
  pub record IsPass (sender : ℕ) (phase : Phase) (own : List (List OwnMark)) (v : View M) : Type 0 where
    pub view : IsPassView v
    pub number : (pass_of v).number ≡ sender
    pub phase_is : (pass_of v).phase ≡ phase
    pub own_is : map (λ kept. map own_mark kept) (pass_of v).own ≡ own
    pub no_ring : (pass_of v).ring ≡ []
    pub no_look : (pass_of v).look ≡ look.Nowhere

  -- The view is that of an owner that works nowhere, has no turn and has found, once it was closed, that nothing waits. It
  -- keeps these jobs by place, and no job that it took once it was closed is active.
  pub record IsEmptied (started : List (List StartedJob)) (taken : List ℕ) (v : View M) : Type 0 where
    pub view : IsOwnerView v
    pub state : (owner_of v).state ≡ owner.Closed
    pub no_turn : (owner_of v).turn ≡ None
    pub rows : length (owner_of v).jobs ≡ length taken
    pub away : (p : ℕ) → slice_index_or (owner_of v).serving p serving.Away ≡ serving.Away
    pub clear : (word : ℕ) → word < 4 → slice_index_or (owner_of v).clear word false ≡ true
    pub kept : (p : ℕ) → p < length taken → IsKept (listed (owner_of v).jobs p) (listed started p) (slice_index taken p)

  -- what an open owner keeps of the jobs that it took, by place: all of them
  abbrev pub KeepsAll : List (List StartedJob) → List ℕ → View M → Type 0
  KeepsAll started taken v = (p : ℕ) → p < length taken → (map started_job (listed (owner_of v).jobs p) ≡ listed started p) × (slice_index taken p ≡ length (listed started p))

  -- The view is that of an open owner that has no turn and got so many notices. It keeps these jobs by place.
  pub record IsOpen (started : List (List StartedJob)) (taken : List ℕ) (got : ℕ) (v : View M) : Type 0 where
    pub view : IsOwnerView v
    pub state : (owner_of v).state ≡ owner.Open
    pub no_turn : (owner_of v).turn ≡ None
    pub no_ring : (owner_of v).ring ≡ []
    pub none_noticed : (owner_of v).noticed ≡ None
    pub got_is : (owner_of v).got ≡ got
    pub wide : length (owner_of v).serving ≡ length taken
    pub rows : length (owner_of v).jobs ≡ length taken
    pub words : length (owner_of v).clear ≡ 4
    pub kept : KeepsAll started taken v

  -- it works nowhere
  pub record IsOwner (started : List (List StartedJob)) (taken : List ℕ) (got : ℕ) (v : View M) : Type 0 where
    pub stands : IsOpen started taken got v
    pub away : (q : ℕ) → serving_at q v ≡ serving.Away

  -- it does this at one place, and nothing at any other
  pub record IsOwnerAt (place : ℕ) (at_place : Serving) (started : List (List StartedJob)) (taken : List ℕ) (got : ℕ) (v : View M) : Type 0 where
    pub stands : IsOpen started taken got v
    pub here : serving_at place v ≡ at_place
    pub elsewhere : (q : ℕ) → q ≢ place → serving_at q v ≡ serving.Away

-- what an owner does at a place whose jobs it starts so
abbrev pub serving_of : Started → Serving
serving_of (started.Notice k) = serving.Executing k
serving_of started.Direct = serving.Direct
serving_of started.Closing = serving.Away

-- an open owner starts jobs so
abbrev pub is_open_start : Started → Bool
is_open_start started.Closing = false
is_open_start _ = true

abbrev pub job_with_fate : FateMark → StartedJob → StartedJob
job_with_fate fate job = record job { fate = Some fate }

abbrev pub fate_kept : List StartedJob → ℕ → FateMark → Option StartedJob → List StartedJob
fate_kept jobs nth fate None = jobs
fate_kept jobs nth fate (Some job) = slice_set jobs nth (job_with_fate fate job)

-- the jobs of a place once this one is settled
abbrev pub kept_settled : ℕ → FateMark → List StartedJob → List StartedJob
kept_settled nth fate jobs = fate_kept jobs nth fate (slice_get jobs nth)
