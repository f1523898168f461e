-- The views of seats: as they begin, and as steps change them.
use Rattle.std.specs.Prelude.{◌≡◌, ℕ, zero, suc, ◌+◌, false, Option, Some, None, List, [], ◌∷◌, ◌++◌, take, drop, replicate, slice_index, slice_index_or, slice_get, slice_set}
use Rattle.proxy_laws.specs.declared.actors.Look.TheVariants as look
use Rattle.proxy_laws.specs.declared.actors.OwnerState.TheVariants as owner
use Rattle.proxy_laws.specs.declared.actors.Phase.{Phase}
use Rattle.proxy_laws.specs.declared.actors.Phase.TheVariants as phase
use Rattle.proxy_laws.specs.declared.actors.Serving.TheVariants as serving
use Rattle.proxy_laws.specs.declared.records.FateMark.{FateMark}
use Rattle.proxy_laws.specs.declared.records.Started.{Started}
use Rattle.proxy_laws.specs.Lists.{start_under}
use Rattle.post_core.specs.declared.views.Entry.{Entry}
use Rattle.post_core.specs.declared.views.Fact.{Fact}
use Rattle.post_core.specs.declared.views.Fact.TheVariants as fact
use Rattle.post_core.specs.declared.views.Held.{Held}
use Rattle.post_core.specs.declared.views.OwnerView.{OwnerView}
use Rattle.post_core.specs.declared.views.PassView.{PassView}
use Rattle.post_core.specs.declared.views.View.{View}
use Rattle.post_core.specs.Kept.{kept, listed}

-- how many uses a pass begins with, by place: one of the system queue
abbrev pub first_uses : ℕ → List ℕ
first_uses zero = []
first_uses (suc n) = 1 ∷ replicate n 0

module _ {M : Type 0} where
  -- the pass of sender number s, before its first step
  abbrev pub fresh_pass : ℕ → ℕ → PassView M
  fresh_pass places s = record {
    number = s;
    phase = phase.Idle;
    look = look.Nowhere;
    uses = first_uses places;
    clones = 0;
    own = replicate places [];
    ring = [];
    created = replicate places 0;
    freed = replicate places 0;
    tried = replicate places 0;
    full = [];
    last_failed = None;
  }

  -- the passes of the senders from number s on
  abbrev pub fresh_passes : ℕ → ℕ → ℕ → List (PassView M)
  fresh_passes places s zero = []
  fresh_passes places s (suc n) = fresh_pass places s ∷ fresh_passes places (suc s) n

  abbrev pub fresh_owner : ℕ → OwnerView M
  fresh_owner places = record {
    state = owner.Open;
    serving = replicate places serving.Away;
    got = 0;
    turn = None;
    ring = [];
    jobs = replicate places [];
    empties = replicate places 0;
    empty_mail = replicate 4 0;
    last_count = 0;
    clear = replicate 4 false;
    noticed = None;
  }

  -- the first seat's view has the owner and all passes
  abbrev pub first_view : ℕ → ℕ → View M
  first_view senders places = record { passes = fresh_passes places 0 senders; owner = Some (fresh_owner places); seen = [] }

  -- a view that knows nothing
  abbrev pub spent_view : View M
  spent_view = record { passes = []; owner = None; seen = [] }

  -- the owner is of that which has it
  abbrev pub either_owner : Option (OwnerView M) → Option (OwnerView M) → Option (OwnerView M)
  either_owner (Some o) other = Some o
  either_owner None other = other

  -- two views made one
  abbrev pub joined : View M → View M → View M
  joined v w = record { passes = v.passes ++ w.passes; owner = either_owner v.owner w.owner; seen = v.seen ++ w.seen }

  -- what a note has of a view
  abbrev pub noted : View M → View M
  noted v = record { passes = []; owner = None; seen = v.seen }

  -- the view without its first pass, and that pass's own view
  abbrev pub dealt : View M → View M
  dealt v = record v { passes = drop 1 v.passes }

  abbrev pub first_dealt : View M → View M
  first_dealt v = record { passes = take 1 v.passes; owner = None; seen = [] }

  -- the pass of a view that has one
  abbrev pub pass_in : List (PassView M) → PassView M
  pass_in [] = fresh_pass 0 0
  pass_in (v ∷ vs) = v

  abbrev pub pass_of : View M → PassView M
  pass_of v = pass_in v.passes

  abbrev pub owner_in : Option (OwnerView M) → OwnerView M
  owner_in None = fresh_owner 0
  owner_in (Some o) = o

  abbrev pub owner_of : View M → OwnerView M
  owner_of v = owner_in v.owner

  -- the view is that of one pass, or of the owner
  abbrev pub IsPassView : View M → Type 0
  IsPassView v = (v.passes ≡ pass_of v ∷ []) × (v.owner ≡ None)

  abbrev pub IsOwnerView : View M → Type 0
  IsOwnerView v = (v.passes ≡ []) × (v.owner ≡ Some (owner_of v))

  abbrev pub with_pass : View M → PassView M → View M
  with_pass v pass = record v { passes = pass ∷ [] }

  abbrev pub with_owner : View M → OwnerView M → View M
  with_owner v o = record v { owner = Some o }

  -- a pass comes to this phase
  abbrev pub at_phase : Phase → View M → View M
  at_phase ph v = with_pass v (record (pass_of v) { phase = ph })

  -- the first job of a ring, taken
  abbrev pub first_held : Started → List (Entry M) → List (Held M)
  first_held start [] = []
  first_held start (e ∷ es) = record { mark = e.mark; meaning = e.meaning; started = start; fate = None } ∷ []

  -- the owner takes the first job of p
  abbrev pub job_taken : ℕ → View M → View M
  job_taken p v = let o = owner_of v in with_owner v (record o {
    ring = drop 1 o.ring;
    jobs = slice_set o.jobs p (listed o.jobs p ++ first_held (start_under o.state (slice_index_or o.serving p serving.Away)) o.ring);
  })

  abbrev pub settled_held : FateMark → Held M → Held M
  settled_held f h = record h { fate = Some f }

  -- the jobs once number n is settled
  abbrev pub held_settled : List (Held M) → ℕ → FateMark → Option (Held M) → List (Held M)
  held_settled held n f None = held
  held_settled held n f (Some h) = slice_set held n (settled_held f h)

  abbrev pub settled_facts : ℕ → ℕ → FateMark → Option (Held M) → List (Fact M)
  settled_facts p n f None = []
  settled_facts p n f (Some h) = fact.Settled p n h.mark h.meaning f ∷ []

  -- the owner settles job number n of p, which is h, and has seen that
  abbrev pub settled_as : ℕ → ℕ → FateMark → Option (Held M) → View M → View M
  settled_as p n f h v = let o = owner_of v in record v {
    owner = Some (record o { jobs = slice_set o.jobs p (held_settled (listed o.jobs p) n f h) });
    seen = v.seen ++ settled_facts p n f h;
  }

  abbrev pub job_settled : ℕ → ℕ → FateMark → View M → View M
  job_settled p n f v = settled_as p n f (slice_get (listed (owner_of v).jobs p) n) v

  -- a pass creates p, or finds it not free
  abbrev pub place_created : ℕ → View M → View M
  place_created p v = let pass = pass_of v in with_pass v (record pass {
    uses = slice_set pass.uses p (slice_index pass.uses p + 1);
    created = slice_set pass.created p (slice_index pass.created p + 1);
  })

  abbrev pub place_found : ℕ → View M → View M
  place_found p v = let pass = pass_of v in with_pass v (record pass {
    full = pass.full ++ record { place = p; created = slice_index pass.created p; freed = slice_index pass.freed p } ∷ [];
  })

  -- the owner has the turn of p, whose ring holds these, or gives it back
  abbrev pub turn_taken : ℕ → List (Entry M) → View M → View M
  turn_taken p ring v = with_owner v (record (owner_of v) { turn = Some p; ring = ring })

  abbrev pub turn_given : View M → View M
  turn_given v = with_owner v (record (owner_of v) { turn = None; ring = [] })

  -- a pass puts this job at p, which is number n there, and has seen that so many were put
  abbrev pub job_put : ℕ → ℕ → Entry M → View M → View M
  job_put p n e v = let pass = pass_of v in record v {
    passes = record pass {
      phase = phase.Put p;
      own = slice_set pass.own p (listed pass.own p ++ kept n e ∷ []);
      ring = pass.ring ++ e ∷ [];
    } ∷ [];
    seen = v.seen ++ fact.Reached p (n + 1) ∷ [];
  }
