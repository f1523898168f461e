-- The steps by which the owner takes the turn of a place, with its ring, and gives it back.
use Rattle.std.proofs.Common.{◌≡◌, ◌≢◌, ℕ, ◌<◌, Some, None, List, [], ◌∷◌, map, get_or, set, drop, refl, arith, ap, sym, subst, ◌∙◌, append-nil, length-set}
use Rattle.std.specs.Prelude.{IsTrue}
use mathlib.Core.Logic.{dite}
use mathlib.Core.Option.{none, some, some-ne-none}
use native.Mathlib.Decide.{ℕ_discrete}
use lib.ListN.{get_elem?}
use Rattle.atomic_table.specs.Table.{State, gives, stepped, takes}
use Rattle.atomic_table.proofs.Lists.{set_else, set_here}
use Rattle.task_ring.specs.Ring.{RingView}
use Rattle.proxy_laws.specs.declared.actors.Actor.TheVariants as actor
use Rattle.proxy_laws.specs.declared.actors.Serving.TheVariants as serving
use Rattle.proxy_laws.specs.declared.events.Event.TheVariants as event
use Rattle.proxy_laws.specs.declared.records.Mark.{Mark}
use Rattle.proxy_laws.specs.Events.{Enabled, world_after}
use Rattle.proxy_laws.specs.Maps.{upd}
use Rattle.proxy_laws.specs.Phases.{is_working}
use Rattle.proxy_laws.specs.Worlds.{WorldState}
use Rattle.proxy_laws.proofs.Inductive.{event_keeps}
use Rattle.proxy_laws.proofs.Maps.{upd_case, upd_here, upd_else}
use Rattle.proxy_laws.proofs.WellFormed.{worlds_are_well_formed}
use Rattle.post_core.specs.declared.slots.Item.{Item}
use Rattle.post_core.specs.declared.views.Entry.{Entry}
use Rattle.post_core.specs.declared.views.OwnerView.{OwnerView}
use Rattle.post_core.specs.declared.views.View.{View}
use Rattle.post_core.specs.Rule.{IsEvent, OwnerFits, Shown, meant, taken_in}
use Rattle.post_core.specs.Views.{owner_of, turn_given, turn_taken}
use Rattle.post_core.specs.Words.{turn_at}
use Rattle.post_core.proofs.Frames.{owner_views}
use Rattle.post_core.proofs.Present.{keeps_same, there_set}
use Rattle.post_core.proofs.Tallied.{tally_set}
use Rattle.post_core.proofs.Words.{set_turn}

module _ {J M : Type 0} (meaning : J → M) (suits : ℕ → Mark → M → Type 0) (senders places : ℕ) (s : State (RingView (Item J)) (View M)) (r : Shown meaning suits senders places s) (id p : ℕ) (v : View M) (at : get_elem? s.views id ≡ some v) (is_owner : v.owner ≡ Some (owner_of v)) (near : p < places) where
  abbrev w : WorldState
  w = r.world

  abbrev o : OwnerView M
  o = owner_of v

  of : OwnerFits w r.entries o
  of = ((r.views id v at).owner o is_owner).1

  inside : p < w.places
  inside = let a = r.sized.places_are in omega arith

  abbrev meant_here : Item J → Entry M
  meant_here = meant meaning suits senders places

  same_place : (x y : ℕ) → Some x ≡ Some y → x ≡ y
  same_place x y same = cc

  -- TakePlace, where the turn is free
  module _ (held : List (ℕ × RingView (Item J))) (idle : o.turn ≡ None) (works : IsTrue (is_working o.state (get_or o.serving p serving.Away))) (free : w.turn p ≡ None) where
    abbrev rv : RingView (Item J)
    rv = (r.slots.ring_is p near free).0

    abbrev ring : List (Entry M)
    ring = map meant_here rv.items

    may : Enabled w (event.TakePlace actor.Owner p)
    may = record { there = record { sender = tt; place = inside }; conditions = ((λ i. is_working (of.does.state_is i) (of.does.serving_is p inside i)) ∙ works, free) }

    abbrev w' : WorldState
    w' = world_after w (event.TakePlace actor.Owner p)

    abbrev v' : View M
    v' = turn_taken p ring v

    own : OwnerFits w' r.entries (owner_of v')
    own = record {
      does = record { state_is = of.does.state_is; serving_is = of.does.serving_is; serving_wide = of.does.serving_wide; got_is = of.does.got_is };
      turns = record {
        turn_here = λ q below. upd_case w.turn p (Some actor.Owner) (λ k t. t ≡ Some actor.Owner → Some p ≡ Some k) q (λ same is. ap Some (sym same)) (λ ne is. absurd (let h = of.turns.turn_here q below is in cc));
        turn_held = λ q is. let same = same_place p q is in subst (λ k. (k < w.places) × (upd w.turn p (Some actor.Owner) k ≡ Some actor.Owner)) same (inside, upd_here w.turn p (Some actor.Owner));
        ring_is = λ q is. subst (λ k. ring ≡ drop (taken_in w k) (r.entries k)) (same_place p q is) (r.slots.ring_is p near free).2;
      };
      jobs = record { jobs_are = of.jobs.jobs_are; marks_are = of.jobs.marks_are; jobs_wide = of.jobs.jobs_wide };
      clears = record { clear = of.clears.clear; noticed = of.clears.noticed };
    }

    pub takes_place : IsEvent meaning suits senders places s r (event.TakePlace actor.Owner p) (stepped s (turn_at p) 1 id held v' (takes p rv))
    takes_place = (
      may,
      (
        record {
          world = w';
          entries = r.entries;
          seat = r.seat;
          chief = r.chief;
          sized = record { places_are = r.sized.places_are; senders_are = r.sized.senders_are; some_place = r.sized.some_place; few_places = r.sized.few_places; few_senders = r.sized.few_senders; few_marks = r.sized.few_marks };
          sound = event_keeps (event.TakePlace actor.Owner p) w r.sound may;
          formed = worlds_are_well_formed.kept w (event.TakePlace actor.Owner p) r.formed may;
          marks = r.marks;
          suited = r.suited;
          words = set_turn places w.refs w.turn w.sent (taken_in w) w.note w.life w.mail s.words r.sized.few_places r.words p 1 (Some actor.Owner) refl near;
          mail_noted = r.mail_noted;
          slots = record {
            wide = length-set s.homes p none ∙ r.slots.wide;
            ring_is = λ q below is. let ne : q ≢ p = λ e. let a = ap w'.turn e ∙ upd_here w.turn p (Some actor.Owner) in cc in
                let h = r.slots.ring_is q below (sym (upd_else w.turn p (Some actor.Owner) q ne) ∙ is) in (h.0, set_else s.homes p q none ne ∙ h.1, h.2);
          };
          views = owner_views w w' r.entries r.entries r.seat r.chief s.views r.views id v v' at (λ f so. so) [] (sym (append-nil v.seen)) (λ k f a. absurd (some-ne-none f (sym a))) o (owner_of v') is_owner refl refl
              (λ j pass f. record {
                near = f.near;
                sits = f.sits;
                does = f.does;
                owns = f.owns;
                turns = record {
                  turn_here = λ q below. upd_case w.turn p (Some actor.Owner) (λ k t. t ≡ Some (actor.Sender pass.number) → IsTrue (Rattle.proxy_laws.specs.Phases.has_turn_at k pass.phase)) q (λ same is. absurd (cc)) (λ ne is. f.turns.turn_here q below is);
                  ring_is = f.turns.ring_is;
                };
              })
              own;
          tally = tally_set senders places w.life s.views r.tally id v' (λ k q a. r.tally.each id v at k q a);
          there = there_set senders r.seat r.chief s.views r.there id v v' at (keeps_same v v' refl (owner_of v') refl);
        },
        refl,
      ),
    )

  -- GivePlace, by an owner whose slot holds what its view says
  module _ (rv : RingView (Item J)) (held : List (ℕ × RingView (Item J))) (turn_is : o.turn ≡ Some p) (holds : map (meant meaning suits senders places) rv.items ≡ o.ring) where
    may_give : Enabled w (event.GivePlace actor.Owner p)
    may_give = record { there = record { sender = tt; place = inside }; conditions = (of.turns.turn_held p turn_is).1 }

    abbrev w2 : WorldState
    w2 = world_after w (event.GivePlace actor.Owner p)

    abbrev v2 : View M
    v2 = turn_given v

    own_given : OwnerFits w2 r.entries (owner_of v2)
    own_given = record {
      does = record { state_is = of.does.state_is; serving_is = of.does.serving_is; serving_wide = of.does.serving_wide; got_is = of.does.got_is };
      turns = record {
        turn_here = λ q below. upd_case w.turn p None (λ k t. t ≡ Some actor.Owner → None ≡ Some k) q (λ same is. absurd (cc)) (λ ne is. absurd (ne (same_place q p (sym (of.turns.turn_here q below is) ∙ turn_is))));
        turn_held = λ q is. absurd (cc);
        ring_is = λ q is. absurd (cc);
      };
      jobs = record { jobs_are = of.jobs.jobs_are; marks_are = of.jobs.marks_are; jobs_wide = of.jobs.jobs_wide };
      clears = record { clear = of.clears.clear; noticed = of.clears.noticed };
    }

    pub gives_place : IsEvent meaning suits senders places s r (event.GivePlace actor.Owner p) (stepped s (turn_at p) 0 id ((p, rv) ∷ held) v2 gives)
    gives_place = (
      may_give,
      (
        record {
          world = w2;
          entries = r.entries;
          seat = r.seat;
          chief = r.chief;
          sized = record { places_are = r.sized.places_are; senders_are = r.sized.senders_are; some_place = r.sized.some_place; few_places = r.sized.few_places; few_senders = r.sized.few_senders; few_marks = r.sized.few_marks };
          sound = event_keeps (event.GivePlace actor.Owner p) w r.sound may_give;
          formed = worlds_are_well_formed.kept w (event.GivePlace actor.Owner p) r.formed may_give;
          marks = r.marks;
          suited = r.suited;
          words = set_turn places w.refs w.turn w.sent (taken_in w) w.note w.life w.mail s.words r.sized.few_places r.words p 0 None refl near;
          mail_noted = r.mail_noted;
          slots = record {
            wide = length-set s.homes p (some rv) ∙ r.slots.wide;
            ring_is = λ q below is. dite (ℕ_discrete q p)
                (λ same. (rv, ap (get_elem? (set s.homes p (some rv))) same ∙ set_here s.homes p (some rv) (let a = r.slots.wide in omega arith), holds ∙ (of.turns.ring_is p turn_is ∙ ap (λ k. drop (taken_in w k) (r.entries k)) (sym same))))
                (λ ne. let h = r.slots.ring_is q below (sym (upd_else w.turn p None q ne) ∙ is) in (h.0, set_else s.homes p q (some rv) ne ∙ h.1, h.2));
          };
          views = owner_views w w2 r.entries r.entries r.seat r.chief s.views r.views id v v2 at (λ f so. so) [] (sym (append-nil v.seen)) (λ k f a. absurd (some-ne-none f (sym a))) o (owner_of v2) is_owner refl refl
              (λ j pass f. record {
                near = f.near;
                sits = f.sits;
                does = f.does;
                owns = f.owns;
                turns = record {
                  turn_here = λ q below. upd_case w.turn p None (λ k t. t ≡ Some (actor.Sender pass.number) → IsTrue (Rattle.proxy_laws.specs.Phases.has_turn_at k pass.phase)) q (λ same is. absurd (cc)) (λ ne is. f.turns.turn_here q below is);
                  ring_is = f.turns.ring_is;
                };
              })
              own_given;
          tally = tally_set senders places w.life s.views r.tally id v2 (λ k q a. r.tally.each id v at k q a);
          there = there_set senders r.seat r.chief s.views r.there id v v2 at (keeps_same v v2 refl (owner_of v2) refl);
        },
        refl,
      ),
    )
