-- The owner's steps at a place: the views after them, and what each tells.
use Rattle.std.specs.Prelude.{◌≡◌, ℕ, ◌+◌, IsTrue, None, [], ◌∷◌, ◌++◌, length, slice_index, slice_index_or, slice_set}
use Rattle.atomic_table.specs.Table.{Me, Step}
use Rattle.task_ring.specs.Ring.{RingView}
use Rattle.proxy_laws.specs.declared.actors.Serving.{Serving}
use Rattle.proxy_laws.specs.declared.actors.Serving.TheVariants as serving
use Rattle.proxy_laws.specs.Phases.{is_working, serving_after_look, serving_after_receive}
use Rattle.proxy_laws.specs.Lists.{start_under}
use Rattle.post_core.specs.declared.slots.Item.{Item}
use Rattle.post_core.specs.declared.views.Entry.{Entry}
use Rattle.post_core.specs.declared.views.View.{View}
use Rattle.post_core.specs.Kept.{listed}
use Rattle.post_core.specs.Views.{owner_of, with_owner}
use Rattle.post_core.specs.Words.{note_at, place_from, put_at}

module _ {M : Type 0} where
  -- what the owner does at p, as its view has it
  abbrev pub serving_at : ℕ → View M → Serving
  serving_at p v = slice_index_or (owner_of v).serving p serving.Away

  -- the owner may take jobs of p
  abbrev pub WorksAt : ℕ → View M → Type 0
  WorksAt p v = IsTrue (is_working (owner_of v).state (serving_at p v))

  -- the owner comes to do this at p
  abbrev pub at_serving : ℕ → Serving → View M → View M
  at_serving p at_place v = let o = owner_of v in with_owner v (record o { serving = slice_set o.serving p at_place })

  -- it has received the note of p
  abbrev pub place_received : ℕ → View M → View M
  place_received p v = at_serving p (serving_after_receive (serving_at p v)) v

  -- it has found no job waiting at p
  abbrev pub place_looked : ℕ → View M → View M
  place_looked p v = let o = owner_of v in with_owner v (record o {
    serving = slice_set o.serving p (serving_after_look (serving_at p v));
    empties = slice_set o.empties p (slice_index o.empties p + 1);
  })

  -- the owner has taken the first job that waited at p, which is this, and given the turn back
  abbrev pub job_started : ℕ → Entry M → View M → View M
  job_started p e v = let o = owner_of v in with_owner v (record o {
    turn = None;
    ring = [];
    jobs = slice_set o.jobs p (listed o.jobs p ++ record { mark = e.mark; meaning = e.meaning; started = start_under o.state (serving_at p v); fate = None } ∷ []);
  })

  -- the owner has found no job waiting at p, and given the turn back
  abbrev pub place_emptied : ℕ → View M → View M
  place_emptied p v = let o = owner_of v in with_owner v (record o {
    turn = None;
    ring = [];
    serving = slice_set o.serving p (serving_after_look (serving_at p v));
    empties = slice_set o.empties p (slice_index o.empties p + 1);
  })

module _ {J M : Type 0} where
  -- the owner receives the note of a place
  abbrev pub received_place : Step (RingView (Item J)) → Me (RingView (Item J)) (View M) → ℕ → Me (RingView (Item J)) (View M) → Type 0
  received_place st m found m' = m' ≡ (place_received (place_from (note_at 0) st.word) m.0, m.1)

  -- the owner begins to execute a place without a notice
  abbrev pub began_directly : Step (RingView (Item J)) → Me (RingView (Item J)) (View M) → ℕ → Me (RingView (Item J)) (View M) → Type 0
  began_directly st m found m' = m' ≡ (at_serving (place_from (note_at 0) st.word) serving.Direct m.0, m.1)

  -- the owner finds as many jobs put at a place as it took there
  abbrev pub looked_place : Step (RingView (Item J)) → Me (RingView (Item J)) (View M) → ℕ → Me (RingView (Item J)) (View M) → Type 0
  looked_place st m found m' = (found ≡ length (listed (owner_of m.0).jobs (place_from (put_at 0) st.word))) × (m' ≡ (place_looked (place_from (put_at 0) st.word) m.0, m.1))

  -- the owner is done with a place
  abbrev pub finished_place : Step (RingView (Item J)) → Me (RingView (Item J)) (View M) → ℕ → Me (RingView (Item J)) (View M) → Type 0
  finished_place st m found m' = m' ≡ (at_serving (place_from (note_at 0) st.word) serving.Away m.0, m.1)
