-- The steps by which a sender takes the turn of a place, with its ring, and gives it back.
use Rattle.std.proofs.Common.{◌≡◌, ◌≢◌, ℕ, ◌<◌, true, false, if◌then◌else◌, Some, None, List, [], ◌∷◌, map, get_or, set, drop, refl, arith, ap, sym, subst, ◌∙◌, append-nil, length-set}
use Rattle.std.specs.Prelude.{IsTrue}
use Rattle.std.proofs.lemmas.Bool.{eq-eqb, eqb-true}
use mathlib.Core.Logic.{dite}
use mathlib.Core.Option.{none, some, some-ne-none}
use native.Mathlib.Decide.{ℕ_discrete}
use lib.ListN.{get_elem?}
use Rattle.atomic_table.specs.Table.{State, gives, stepped, takes}
use Rattle.atomic_table.proofs.Lists.{set_else, set_here}
use Rattle.task_ring.specs.Ring.{RingView}
use Rattle.proxy_laws.specs.declared.actors.Actor.TheVariants as actor
use Rattle.proxy_laws.specs.declared.actors.Phase.{Phase}
use Rattle.proxy_laws.specs.declared.actors.Phase.TheVariants as phase
use Rattle.proxy_laws.specs.declared.events.Event.TheVariants as event
use Rattle.proxy_laws.specs.declared.records.Mark.{Mark}
use Rattle.proxy_laws.specs.Events.{Enabled, world_after}
use Rattle.proxy_laws.specs.Maps.{bit}
use Rattle.proxy_laws.specs.Phases.{has_turn_at, names, phase_after_give}
use Rattle.proxy_laws.specs.Worlds.{WorldState}
use Rattle.proxy_laws.proofs.Inductive.{event_keeps}
use Rattle.proxy_laws.proofs.Maps.{upd_case, upd_here, upd_else}
use Rattle.proxy_laws.proofs.WellFormed.{worlds_are_well_formed}
use Rattle.post_core.specs.declared.slots.Item.{Item}
use Rattle.post_core.specs.declared.views.Entry.{Entry}
use Rattle.post_core.specs.declared.views.OwnerView.{OwnerView}
use Rattle.post_core.specs.declared.views.PassView.{PassView}
use Rattle.post_core.specs.declared.views.View.{View}
use Rattle.post_core.specs.Rule.{IsEvent, OwnerFits, PassFits, Shown, meant, taken_in}
use Rattle.post_core.specs.SendSteps.{place_given, place_taken}
use Rattle.post_core.specs.Views.{IsPassView, pass_of}
use Rattle.post_core.specs.Words.{turn_at}
use Rattle.post_core.proofs.Frames.{pass_views}
use Rattle.post_core.proofs.Members.{one_at}
use Rattle.post_core.proofs.Present.{keeps_one, there_set}
use Rattle.post_core.proofs.Sending.{does_else}
use Rattle.post_core.proofs.Tallied.{Lives, tally_set}
use Rattle.post_core.proofs.Words.{set_turn}

-- a sender has one turn at most
one_turn : (p q : ℕ) (ph : Phase) → IsTrue (has_turn_at p ph) → IsTrue (has_turn_at q ph) → q ≡ p
one_turn p q phase.Idle here there = absurd (cc)
one_turn p q phase.Referenced here there = absurd (cc)
one_turn p q (phase.Holding x) here there = sym (eqb-true x q there) ∙ eqb-true x p here
one_turn p q (phase.Put x) here there = sym (eqb-true x q there) ∙ eqb-true x p here
one_turn p q (phase.Owing x) here there = absurd (cc)
one_turn p q (phase.Messenger x) here there = absurd (cc)

-- and has none once it has given it back
no_turn_left : (p q : ℕ) (ph : Phase) → IsTrue (has_turn_at p ph) → has_turn_at q (phase_after_give p ph) ≡ false
no_turn_left p q phase.Idle here = absurd (cc)
no_turn_left p q phase.Referenced here = absurd (cc)
no_turn_left p q (phase.Holding x) here = ap (λ b. has_turn_at q (if b then phase.Referenced else phase.Holding x)) here
no_turn_left p q (phase.Put x) here = ap (λ b. has_turn_at q (if b then phase.Owing x else phase.Put x)) here
no_turn_left p q (phase.Owing x) here = absurd (cc)
no_turn_left p q (phase.Messenger x) here = absurd (cc)

module _ {J M : Type 0} (meaning : J → M) (suits : ℕ → Mark → M → Type 0) (senders places : ℕ) (s : State (RingView (Item J)) (View M)) (r : Shown meaning suits senders places s) (id p : ℕ) (v : View M) (held : List (ℕ × RingView (Item J))) (at : get_elem? s.views id ≡ some v) (is_pass : IsPassView v) (near : p < places) where
  abbrev w : WorldState
  w = r.world

  abbrev pass : PassView M
  pass = pass_of v

  abbrev t : ℕ
  t = pass.number

  first : get_elem? v.passes 0 ≡ some pass
  first = subst (λ ps. get_elem? ps 0 ≡ some pass) (sym is_pass.0) refl

  fits : PassFits w r.entries r.seat id pass
  fits = (r.views id v at).passes 0 pass first

  inside : p < w.places
  inside = let a = r.sized.places_are in omega arith

  abbrev meant_here : Item J → Entry M
  meant_here = meant meaning suits senders places

  same_sender : (x y : ℕ) → Some (actor.Sender x) ≡ Some (actor.Sender y) → x ≡ y
  same_sender x y is = cc

  -- TakePlace, where the turn is free
  module _ (referenced : pass.phase ≡ phase.Referenced) (used : 0 < get_or pass.uses p 0) (free : w.turn p ≡ None) where
    abbrev rv : RingView (Item J)
    rv = (r.slots.ring_is p near free).0

    abbrev ring : List (Entry M)
    ring = map meant_here rv.items

    phase_was : w.phase t ≡ phase.Referenced
    phase_was = fits.does.phase_is ∙ referenced

    may : Enabled w (event.TakePlace (actor.Sender t) p)
    may = record { there = record { sender = fits.near; place = inside }; conditions = ((phase_was, subst (λ ph. bit (names p ph) < w.uses t p) (sym phase_was) (let a = fits.does.uses_are p inside in omega arith)), free) }

    abbrev w' : WorldState
    w' = world_after w (event.TakePlace (actor.Sender t) p)

    abbrev v' : View M
    v' = place_taken p ring v

    abbrev to : PassView M
    to = pass_of v'

    own : PassFits w' r.entries r.seat id to
    own = record {
      near = fits.near;
      sits = fits.sits;
      does = record { phase_is = upd_here w.phase t (phase.Holding p); look_is = fits.does.look_is; uses_are = fits.does.uses_are; uses_wide = fits.does.uses_wide; few_uses = fits.does.few_uses; few_clones = fits.does.few_clones };
      turns = record {
        turn_here = λ q below. upd_case w.turn p (Some (actor.Sender t)) (λ k x. x ≡ Some (actor.Sender t) → IsTrue (has_turn_at k (phase.Holding p))) q
            (λ same is. eq-eqb p q (sym same))
            (λ ne is. absurd (let b : has_turn_at q phase.Referenced ≡ true = subst (λ ph. IsTrue (has_turn_at q ph)) referenced (fits.turns.turn_here q below is) in cc));
        ring_is = λ q below has. subst (λ k. ring ≡ drop (taken_in w k) (r.entries k)) (eqb-true p q has) (r.slots.ring_is p near free).2;
      };
      owns = record { own_is = fits.owns.own_is; own_wide = fits.owns.own_wide };
    }

    others : (j : ℕ) (q : PassView M) → q.number ≢ t → PassFits w r.entries r.seat j q → PassFits w' r.entries r.seat j q
    others j q ne f = record {
      near = f.near;
      sits = f.sits;
      does = does_else w t (phase.Holding p) q ne f.does;
      turns = record {
        turn_here = λ i below. upd_case w.turn p (Some (actor.Sender t)) (λ k x. x ≡ Some (actor.Sender q.number) → IsTrue (has_turn_at k q.phase)) i
            (λ same is. absurd (ne (sym (same_sender t q.number is))))
            (λ differ is. f.turns.turn_here i below is);
        ring_is = f.turns.ring_is;
      };
      owns = f.owns;
    }

    owners : (o : OwnerView M) → OwnerFits w r.entries o → OwnerFits w' r.entries o
    owners o f = record {
      does = f.does;
      turns = record {
        turn_here = λ q below. upd_case w.turn p (Some (actor.Sender t)) (λ k x. x ≡ Some actor.Owner → o.turn ≡ Some k) q (λ same is. absurd (cc)) (λ ne is. f.turns.turn_here q below is);
        turn_held = λ q is. let h = f.turns.turn_held q is in (h.0, upd_else w.turn p (Some (actor.Sender t)) q (λ same. let a = ap w.turn same in let b = h.1 in cc) ∙ h.1);
        ring_is = f.turns.ring_is;
      };
      jobs = f.jobs;
      clears = f.clears;
    }

    pub takes_turn : IsEvent meaning suits senders places s r (event.TakePlace (actor.Sender t) p) (stepped s (turn_at p) 1 id held v' (takes p rv))
    takes_turn = (
      may,
      (
        record {
          world = w';
          entries = r.entries;
          seat = r.seat;
          chief = r.chief;
          sized = record { places_are = r.sized.places_are; senders_are = r.sized.senders_are; some_place = r.sized.some_place; few_places = r.sized.few_places; few_senders = r.sized.few_senders; few_marks = r.sized.few_marks };
          sound = event_keeps (event.TakePlace (actor.Sender t) p) w r.sound may;
          formed = worlds_are_well_formed.kept w (event.TakePlace (actor.Sender t) p) r.formed may;
          marks = r.marks;
          suited = r.suited;
          words = set_turn places w.refs w.turn w.sent (taken_in w) w.note w.life w.mail s.words r.sized.few_places r.words p 1 (Some (actor.Sender t)) refl near;
          mail_noted = r.mail_noted;
          slots = record {
            wide = length-set s.homes p none ∙ r.slots.wide;
            ring_is = λ q below is. let ne : q ≢ p = λ e. let a = ap w'.turn e ∙ upd_here w.turn p (Some (actor.Sender t)) in cc in
                let h = r.slots.ring_is q below (sym (upd_else w.turn p (Some (actor.Sender t)) q ne) ∙ is) in (h.0, set_else s.homes p q none ne ∙ h.1, h.2);
          };
          views = pass_views w w' r.entries r.entries r.seat r.chief s.views r.views id v v' at (λ f so. so) [] (sym (append-nil v.seen)) (λ k f a. absurd (some-ne-none f (sym a))) pass to is_pass.0 refl refl others own owners;
          tally = tally_set senders places w.life s.views r.tally id v' (λ k q a. subst (Lives senders places w.life s.views r.tally) (one_at to k q a) (let o = r.tally.each id v at 0 pass first in record { created_are = o.created_are; freed_are = o.freed_are; created_wide = o.created_wide; freed_wide = o.freed_wide; found = o.found }));
          there = there_set senders r.seat r.chief s.views r.there id v v' at (keeps_one v v' pass to is_pass.0 refl refl refl);
        },
        refl,
      ),
    )

  -- GivePlace, by a sender whose slot holds what its view says
  module _ (rv : RingView (Item J)) (has : IsTrue (has_turn_at p pass.phase)) (holds : map (meant meaning suits senders places) rv.items ≡ pass.ring) where
    turn_is : w.turn p ≡ Some (actor.Sender t)
    turn_is = r.sound.turns.held t p fits.near inside (subst (λ ph. IsTrue (has_turn_at p ph)) (sym fits.does.phase_is) has)

    may_give : Enabled w (event.GivePlace (actor.Sender t) p)
    may_give = record { there = record { sender = fits.near; place = inside }; conditions = turn_is }

    abbrev w2 : WorldState
    w2 = world_after w (event.GivePlace (actor.Sender t) p)

    abbrev v2 : View M
    v2 = place_given p v

    abbrev back : PassView M
    back = pass_of v2

    own_given : PassFits w2 r.entries r.seat id back
    own_given = record {
      near = fits.near;
      sits = fits.sits;
      does = record { phase_is = upd_here w.phase t (phase_after_give p (w.phase t)) ∙ ap (phase_after_give p) fits.does.phase_is; look_is = fits.does.look_is; uses_are = fits.does.uses_are; uses_wide = fits.does.uses_wide; few_uses = fits.does.few_uses; few_clones = fits.does.few_clones };
      turns = record {
        turn_here = λ q below. upd_case w.turn p None (λ k x. x ≡ Some (actor.Sender t) → IsTrue (has_turn_at k back.phase)) q (λ same is. absurd (cc)) (λ ne is. absurd (ne (one_turn p q pass.phase has (fits.turns.turn_here q below is))));
        ring_is = λ q below still. absurd (let a = no_turn_left p q pass.phase has in cc);
      };
      owns = record { own_is = fits.owns.own_is; own_wide = fits.owns.own_wide };
    }

    others_given : (j : ℕ) (q : PassView M) → q.number ≢ t → PassFits w r.entries r.seat j q → PassFits w2 r.entries r.seat j q
    others_given j q ne f = record {
      near = f.near;
      sits = f.sits;
      does = does_else w t (phase_after_give p (w.phase t)) q ne f.does;
      turns = record {
        turn_here = λ i below. upd_case w.turn p None (λ k x. x ≡ Some (actor.Sender q.number) → IsTrue (has_turn_at k q.phase)) i (λ same is. absurd (cc)) (λ differ is. f.turns.turn_here i below is);
        ring_is = f.turns.ring_is;
      };
      owns = f.owns;
    }

    owners_given : (o : OwnerView M) → OwnerFits w r.entries o → OwnerFits w2 r.entries o
    owners_given o f = record {
      does = f.does;
      turns = record {
        turn_here = λ q below. upd_case w.turn p None (λ k x. x ≡ Some actor.Owner → o.turn ≡ Some k) q (λ same is. absurd (cc)) (λ ne is. f.turns.turn_here q below is);
        turn_held = λ q is. let h = f.turns.turn_held q is in (h.0, upd_else w.turn p None q (λ same. let a = ap w.turn same in let b = h.1 in let c = turn_is in absurd (cc)) ∙ h.1);
        ring_is = f.turns.ring_is;
      };
      jobs = f.jobs;
      clears = f.clears;
    }

    pub gives_turn : IsEvent meaning suits senders places s r (event.GivePlace (actor.Sender t) p) (stepped s (turn_at p) 0 id ((p, rv) ∷ held) v2 gives)
    gives_turn = (
      may_give,
      (
        record {
          world = w2;
          entries = r.entries;
          seat = r.seat;
          chief = r.chief;
          sized = record { places_are = r.sized.places_are; senders_are = r.sized.senders_are; some_place = r.sized.some_place; few_places = r.sized.few_places; few_senders = r.sized.few_senders; few_marks = r.sized.few_marks };
          sound = event_keeps (event.GivePlace (actor.Sender t) p) w r.sound may_give;
          formed = worlds_are_well_formed.kept w (event.GivePlace (actor.Sender t) p) r.formed may_give;
          marks = r.marks;
          suited = r.suited;
          words = set_turn places w.refs w.turn w.sent (taken_in w) w.note w.life w.mail s.words r.sized.few_places r.words p 0 None refl near;
          mail_noted = r.mail_noted;
          slots = record {
            wide = length-set s.homes p (some rv) ∙ r.slots.wide;
            ring_is = λ q below is. dite (ℕ_discrete q p)
                (λ same. (rv, ap (get_elem? (set s.homes p (some rv))) same ∙ set_here s.homes p (some rv) (let a = r.slots.wide in omega arith), holds ∙ (fits.turns.ring_is p inside has ∙ ap (λ k. drop (taken_in w k) (r.entries k)) (sym same))))
                (λ ne. let h = r.slots.ring_is q below (sym (upd_else w.turn p None q ne) ∙ is) in (h.0, set_else s.homes p q (some rv) ne ∙ h.1, h.2));
          };
          views = pass_views w w2 r.entries r.entries r.seat r.chief s.views r.views id v v2 at (λ f so. so) [] (sym (append-nil v.seen)) (λ k f a. absurd (some-ne-none f (sym a))) pass back is_pass.0 refl refl others_given own_given owners_given;
          tally = tally_set senders places w.life s.views r.tally id v2 (λ k q a. subst (Lives senders places w.life s.views r.tally) (one_at back k q a) (let o = r.tally.each id v at 0 pass first in record { created_are = o.created_are; freed_are = o.freed_are; created_wide = o.created_wide; freed_wide = o.freed_wide; found = o.found }));
          there = there_set senders r.seat r.chief s.views r.there id v v2 at (keeps_one v v2 pass back is_pass.0 refl refl refl);
        },
        refl,
      ),
    )
