-- The steps by which an owner closes its target: the views after them, and what each tells.
use Rattle.std.specs.Prelude.{◌≡◌, ◌≢◌, ℕ, None, Some, [], ◌∷◌, ◌++◌, slice_set}
use Rattle.atomic_table.specs.Table.{Me, Step}
use Rattle.task_ring.specs.Ring.{RingView}
use Rattle.proxy_laws.specs.declared.actors.OwnerState.TheVariants as owner
use Rattle.proxy_laws.specs.declared.actors.Serving.TheVariants as serving
use Rattle.post_core.specs.declared.slots.Item.{Item}
use Rattle.post_core.specs.declared.views.Fact.TheVariants as fact
use Rattle.post_core.specs.declared.views.View.{View}
use Rattle.post_core.specs.Views.{owner_of, with_owner}

module _ {M : Type 0} where
  -- the owner has dropped its reference
  abbrev pub own_dropped : View M → View M
  own_dropped v = with_owner v (record (owner_of v) { state = owner.Closing })

  -- the owner has found no reference: it is closed, and has seen that none is left
  abbrev pub none_left : View M → View M
  none_left v = record v {
    owner = Some (record (owner_of v) { state = owner.Closed; last_count = 0 });
    seen = v.seen ++ fact.NoReferences ∷ [];
  }

  -- the owner has found so many references, and closes still
  abbrev pub some_left : ℕ → View M → View M
  some_left count v = with_owner v (record (owner_of v) { last_count = count })

  -- a closed owner has found no job waiting at p, has set its note to none, and has given the turn back
  abbrev pub place_cleared : ℕ → View M → View M
  place_cleared p v = let o = owner_of v in with_owner v (record o {
    turn = None;
    ring = [];
    serving = slice_set o.serving p serving.Away;
  })

module _ {J M : Type 0} where
  -- the owner drops its reference
  abbrev pub dropped_own : Step (RingView (Item J)) → Me (RingView (Item J)) (View M) → ℕ → Me (RingView (Item J)) (View M) → Type 0
  dropped_own st m found m' = m' ≡ (own_dropped m.0, m.1)

  -- the owner looks how many references are left
  abbrev pub looked_closed : Step (RingView (Item J)) → Me (RingView (Item J)) (View M) → ℕ → Me (RingView (Item J)) (View M) → Type 0
  looked_closed st m found m' = (found ≡ 0 → m' ≡ (none_left m.0, m.1)) × (found ≢ 0 → m' ≡ (some_left found m.0, m.1))
