-- The owner's steps on the references of its target, each of which is its event.
use Rattle.std.proofs.Common.{◌≡◌, ◌≢◌, ℕ, ◌+◌, ◌-◌, ◌%◌, ◌^◌, ◌==◌, Bool, Some, List, [], ◌∷◌, set, refl, arith, ap, sym, subst, ◌∙◌, append-nil, if◌then◌else◌}
use Rattle.std.specs.Prelude.{slice_index}
use Rattle.std.proofs.lemmas.Bool.{ne_eqb}
use Rattle.std.proofs.lemmas.List.{set-get_or}
use mathlib.Core.Option.{some, some-ne-none}
use lib.ListN.{get_elem?}
use Rattle.atomic_table.specs.Table.{State, keeps, stepped}
use Rattle.task_ring.specs.Ring.{RingView}
use Rattle.proxy_laws.specs.declared.actors.OwnerState.TheVariants as owner
use Rattle.proxy_laws.specs.declared.events.Event.TheVariants as event
use Rattle.proxy_laws.specs.declared.records.Mark.{Mark}
use Rattle.proxy_laws.specs.Events.{Enabled, world_after}
use Rattle.proxy_laws.specs.Maps.{bit}
use Rattle.proxy_laws.specs.Phases.{is_open}
use Rattle.proxy_laws.specs.Sound.{Sound}
use Rattle.proxy_laws.specs.Worlds.{WorldState, IsWellFormed}
use Rattle.proxy_laws.proofs.Inductive.{event_keeps}
use Rattle.proxy_laws.proofs.WellFormed.{worlds_are_well_formed}
use Rattle.post_core.specs.declared.slots.Item.{Item}
use Rattle.post_core.specs.declared.views.Fact.{Fact}
use Rattle.post_core.specs.declared.views.Fact.TheVariants as fact
use Rattle.post_core.specs.declared.views.OwnerView.{OwnerView}
use Rattle.post_core.specs.declared.views.View.{View}
use Rattle.post_core.specs.ClosingSteps.{none_left, own_dropped, some_left}
use Rattle.post_core.specs.Rule.{IsEvent, IsSo, OwnerFits, Shown, taken_in}
use Rattle.post_core.specs.Views.{owner_of}
use Rattle.post_core.specs.Words.{WordsShow, refs_at}
use Rattle.post_core.proofs.Frames.{owner_views}
use Rattle.post_core.proofs.Members.{one_at}
use Rattle.post_core.proofs.Numbers.{refs_few}
use Rattle.post_core.proofs.Present.{keeps_same, there_set}
use Rattle.post_core.proofs.Sized.{sized_like}
use Rattle.post_core.proofs.Tallied.{tally_set}
use Rattle.post_core.proofs.Words.{set_refs}

module _ {J M : Type 0} (meaning : J → M) (suits : ℕ → Mark → M → Type 0) (senders places : ℕ) (s : State (RingView (Item J)) (View M)) (r : Shown meaning suits senders places s) (id : ℕ) (v : View M) (held : List (ℕ × RingView (Item J))) (at : get_elem? s.views id ≡ some v) (is_owner : v.owner ≡ Some (owner_of v)) where
  abbrev w : WorldState
  w = r.world

  abbrev o : OwnerView M
  o = owner_of v

  of : OwnerFits w r.entries o
  of = ((r.views id v at).owner o is_owner).1

  -- DropOwn
  module _ (opened : o.state ≡ owner.Open) where
    may_drop : Enabled w event.DropOwn
    may_drop = record { there = record { sender = tt; place = tt }; conditions = of.does.state_is ∙ opened }

    -- the owner has a reference until then
    pub own_counted : (slice_index s.words refs_at + (2 ^ 64 - 1)) % 2 ^ 64 ≡ w.refs - 1
    own_counted =
        let one : bit (is_open w.owner) ≡ 1 = ap (λ x. bit (is_open x)) (of.does.state_is ∙ opened) in
        let a = r.sound.refs in let b = refs_few meaning suits senders places s r in let c = r.words.refs_is in omega arith

    abbrev dropped : WorldState
    dropped = world_after w event.DropOwn

    facts_dropped : (f : Fact M) → IsSo w.places w.refs r.entries w.jobs f → IsSo dropped.places dropped.refs r.entries dropped.jobs f
    facts_dropped fact.NoReferences so = omega arith
    facts_dropped (fact.Reached q count) so = so
    facts_dropped (fact.Settled q k mark m f) so = so

    own : OwnerFits dropped r.entries (owner_of (own_dropped v))
    own = record {
      does = record { state_is = refl; serving_is = of.does.serving_is; serving_wide = of.does.serving_wide; got_is = of.does.got_is };
      turns = record { turn_here = of.turns.turn_here; turn_held = of.turns.turn_held; ring_is = of.turns.ring_is };
      jobs = record { jobs_are = of.jobs.jobs_are; marks_are = of.jobs.marks_are; jobs_wide = of.jobs.jobs_wide };
      clears = record {
        clear = λ word is. absurd (open_is_not_closed (sym opened ∙ (sym of.does.state_is ∙ (of.clears.clear word is).0)));
        noticed = of.clears.noticed;
      };
    } where
      open_is_not_closed : owner.Open ≡ owner.Closed → ⊥
      open_is_not_closed e = cc

    pub drops_own : (x : ℕ) → x ≡ w.refs - 1 → IsEvent meaning suits senders places s r event.DropOwn (stepped s refs_at x id held (own_dropped v) keeps)
    drops_own x is = (
      may_drop,
      (
        record {
          world = dropped;
          entries = r.entries;
          seat = r.seat;
          chief = r.chief;
          sized = sized_like meaning suits senders places w dropped refl refl (λ q t. refl) r.sized;
          sound = event_keeps event.DropOwn w r.sound may_drop;
          formed = worlds_are_well_formed.kept w event.DropOwn r.formed may_drop;
          marks = r.marks;
          suited = r.suited;
          words = subst (λ n. WordsShow places n w.turn w.sent (taken_in w) w.note w.life w.mail (set s.words refs_at x)) is (set_refs places w.refs w.turn w.sent (taken_in w) w.note w.life w.mail s.words r.sized.few_places r.words x);
          mail_noted = r.mail_noted;
          slots = r.slots;
          views = owner_views w dropped r.entries r.entries r.seat r.chief s.views r.views id v (own_dropped v) at facts_dropped [] (sym (append-nil v.seen)) (λ k f a. absurd (some-ne-none f (sym a))) o (owner_of (own_dropped v)) is_owner refl refl
              (λ j pass f. record { near = f.near; sits = f.sits; does = f.does; turns = f.turns; owns = f.owns })
              own;
          tally = tally_set senders places w.life s.views r.tally id (own_dropped v) (λ k q a. r.tally.each id v at k q a);
          there = there_set senders r.seat r.chief s.views r.there id v (own_dropped v) at (keeps_same v (own_dropped v) refl (owner_of (own_dropped v)) refl);
        },
        refl,
      ),
    )

  -- LookClosed
  module _ (closes : o.state ≡ owner.Closing) (x : ℕ) (x_is : x ≡ slice_index s.words refs_at) where
    may_look : Enabled w event.LookClosed
    may_look = record { there = record { sender = tt; place = tt }; conditions = of.does.state_is ∙ closes }

    words_same : WordsShow places w.refs w.turn w.sent (taken_in w) w.note w.life w.mail (set s.words refs_at x)
    words_same = subst (λ ws. WordsShow places w.refs w.turn w.sent (taken_in w) w.note w.life w.mail ws) (sym (ap (λ k. set s.words refs_at k) x_is ∙ set-get_or s.words refs_at 0)) r.words

    -- with no reference it is closed
    module _ (none : x ≡ 0) where
      no_refs : w.refs ≡ 0
      no_refs = sym r.words.refs_is ∙ (sym x_is ∙ none)

      abbrev closed : WorldState
      closed = record w { owner = owner.Closed }

      closed_is : world_after w event.LookClosed ≡ closed
      closed_is = ap (λ (n : ℕ). record w { owner = if n == 0 then owner.Closed else w.owner }) no_refs

      own_closed : OwnerFits closed r.entries (owner_of (none_left v))
      own_closed = record {
        does = record { state_is = refl; serving_is = of.does.serving_is; serving_wide = of.does.serving_wide; got_is = of.does.got_is };
        turns = record { turn_here = of.turns.turn_here; turn_held = of.turns.turn_held; ring_is = of.turns.ring_is };
        jobs = record { jobs_are = of.jobs.jobs_are; marks_are = of.jobs.marks_are; jobs_wide = of.jobs.jobs_wide };
        clears = record { clear = λ word is. (refl, (of.clears.clear word is).1); noticed = of.clears.noticed };
      }

      pub finds_none : IsEvent meaning suits senders places s r event.LookClosed (stepped s refs_at x id held (none_left v) keeps)
      finds_none = (
        may_look,
        (
          record {
            world = closed;
            entries = r.entries;
            seat = r.seat;
            chief = r.chief;
            sized = sized_like meaning suits senders places w closed refl refl (λ q t. refl) r.sized;
            sound = subst Sound closed_is (event_keeps event.LookClosed w r.sound may_look);
            formed = subst (λ (y : WorldState). IsWellFormed y) closed_is (worlds_are_well_formed.kept w event.LookClosed r.formed may_look);
            marks = r.marks;
            suited = r.suited;
            words = words_same;
            mail_noted = r.mail_noted;
            slots = r.slots;
            views = owner_views w closed r.entries r.entries r.seat r.chief s.views r.views id v (none_left v) at (λ f so. so) (fact.NoReferences ∷ []) refl (λ k f a. subst (IsSo w.places w.refs r.entries w.jobs) (one_at fact.NoReferences k f a) no_refs) o (owner_of (none_left v)) is_owner refl refl
                (λ j pass f. record { near = f.near; sits = f.sits; does = f.does; turns = f.turns; owns = f.owns })
                own_closed;
            tally = tally_set senders places w.life s.views r.tally id (none_left v) (λ k q a. r.tally.each id v at k q a);
            there = there_set senders r.seat r.chief s.views r.there id v (none_left v) at (keeps_same v (none_left v) refl (owner_of (none_left v)) refl);
          },
          sym closed_is,
        ),
      )

    -- with references it closes still
    module _ (some_refs : x ≢ 0) where
      same_is : world_after w event.LookClosed ≡ w
      same_is = ap (λ (b : Bool). record w { owner = if b then owner.Closed else w.owner }) (ne_eqb w.refs 0 (λ e. some_refs (x_is ∙ (r.words.refs_is ∙ e))))

      own_still : OwnerFits w r.entries (owner_of (some_left x v))
      own_still = record {
        does = record { state_is = of.does.state_is; serving_is = of.does.serving_is; serving_wide = of.does.serving_wide; got_is = of.does.got_is };
        turns = record { turn_here = of.turns.turn_here; turn_held = of.turns.turn_held; ring_is = of.turns.ring_is };
        jobs = record { jobs_are = of.jobs.jobs_are; marks_are = of.jobs.marks_are; jobs_wide = of.jobs.jobs_wide };
        clears = record { clear = of.clears.clear; noticed = of.clears.noticed };
      }

      pub finds_some : IsEvent meaning suits senders places s r event.LookClosed (stepped s refs_at x id held (some_left x v) keeps)
      finds_some = (
        may_look,
        (
          record {
            world = w;
            entries = r.entries;
            seat = r.seat;
            chief = r.chief;
            sized = r.sized;
            sound = r.sound;
            formed = r.formed;
            marks = r.marks;
            suited = r.suited;
            words = words_same;
            mail_noted = r.mail_noted;
            slots = r.slots;
            views = owner_views w w r.entries r.entries r.seat r.chief s.views r.views id v (some_left x v) at (λ f so. so) [] (sym (append-nil v.seen)) (λ k f a. absurd (some-ne-none f (sym a))) o (owner_of (some_left x v)) is_owner refl refl (λ j pass f. f) own_still;
            tally = tally_set senders places w.life s.views r.tally id (some_left x v) (λ k q a. r.tally.each id v at k q a);
            there = there_set senders r.seat r.chief s.views r.there id v (some_left x v) at (keeps_same v (some_left x v) refl (owner_of (some_left x v)) refl);
          },
          sym same_is,
        ),
      )
