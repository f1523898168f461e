-- Senders' steps, each of which is its event.
use Rattle.post_core.specs.declared.slots.Item.{Item}
use Rattle.task_ring.specs.Ring.{RingView}
use Rattle.std.proofs.Common.{◌≡◌, ◌≢◌, ℕ, ◌<◌, true, false, List, [], refl, arith, sym, subst, ◌∙◌, append-nil}
use Rattle.std.specs.Prelude.{IsTrue}
use mathlib.Core.Option.{some, some-ne-none}
use lib.ListN.{get_elem?}
use Rattle.atomic_table.specs.Table.{State, keeps, stepped}
use Rattle.proxy_laws.specs.declared.actors.Note.{Note}
use Rattle.proxy_laws.specs.declared.actors.Note.TheVariants as note
use Rattle.proxy_laws.specs.declared.actors.Phase.{Phase}
use Rattle.proxy_laws.specs.declared.actors.Phase.TheVariants as phase
use Rattle.proxy_laws.specs.declared.events.Event.TheVariants as event
use Rattle.proxy_laws.specs.declared.records.Mark.{Mark}
use Rattle.proxy_laws.specs.Events.{Enabled, world_after}
use Rattle.proxy_laws.specs.Maps.{upd}
use Rattle.proxy_laws.specs.Phases.{has_turn_at, phase_after_swap}
use Rattle.proxy_laws.specs.Worlds.{WorldState}
use Rattle.proxy_laws.proofs.Inductive.{event_keeps}
use Rattle.proxy_laws.proofs.Maps.{upd_here, upd_else}
use Rattle.proxy_laws.proofs.WellFormed.{worlds_are_well_formed}
use Rattle.post_core.specs.declared.views.PassView.{PassView}
use Rattle.post_core.specs.declared.views.View.{View}
use Rattle.post_core.specs.Rule.{IsEvent, PassDoes, PassFits, Shown, taken_in}
use Rattle.post_core.specs.Views.{IsPassView, at_phase, pass_of}
use Rattle.post_core.specs.Words.{note_at}
use Rattle.post_core.proofs.Frames.{pass_views}
use Rattle.post_core.proofs.Members.{one_at}
use Rattle.post_core.proofs.Present.{keeps_one, there_set}
use Rattle.post_core.proofs.Tallied.{Lives, tally_set}
use Rattle.post_core.proofs.Words.{set_note}

no_turn : (p q : ℕ) (n : Note) → has_turn_at q (phase_after_swap p n) ≡ false
no_turn p q note.None = refl
no_turn p q note.Pending = refl
no_turn p q note.Received = refl

-- another sender's view of what it does
pub does_else : {M : Type 0} (w : WorldState) (s : ℕ) (ph : Phase) (q : PassView M) → q.number ≢ s → PassDoes w.places w.phase w.look w.uses q → PassDoes w.places (upd w.phase s ph) w.look w.uses q
does_else w s ph q ne o = record { phase_is = upd_else w.phase s ph q.number ne ∙ o.phase_is; look_is = o.look_is; uses_are = o.uses_are; uses_wide = o.uses_wide; few_uses = o.few_uses; few_clones = o.few_clones }

module _ {J M : Type 0} (meaning : J → M) (suits : ℕ → Mark → M → Type 0) (senders places : ℕ) (s : State (RingView (Item J)) (View M)) (r : Shown meaning suits senders places s) (id p : ℕ) (v : View M) (held : List (ℕ × RingView (Item J))) (at : get_elem? s.views id ≡ some v) (is_pass : IsPassView v) (near : p < places) where
  abbrev w : WorldState
  w = r.world

  abbrev pass : PassView M
  pass = pass_of v

  fits : PassFits w r.entries r.seat id pass
  fits = (r.views id v at).passes 0 pass (subst (λ ps. get_elem? ps 0 ≡ some pass) (sym is_pass.0) refl)

  -- SwapNote, by a pass that owes a notification at p
  module _ (owes : pass.phase ≡ phase.Owing p) where
    abbrev to : Phase
    to = phase_after_swap p (w.note p)

    phase_was : w.phase pass.number ≡ phase.Owing p
    phase_was = fits.does.phase_is ∙ owes

    may : Enabled w (event.SwapNote pass.number p)
    may = record { there = record { sender = fits.near; place = let a = r.sized.places_are in omega arith }; conditions = phase_was }

    abbrev w' : WorldState
    w' = world_after w (event.SwapNote pass.number p)

    own : PassFits w' r.entries r.seat id (record pass { phase = to })
    own = record {
      near = fits.near;
      sits = fits.sits;
      does = record { phase_is = upd_here w.phase pass.number to; look_is = fits.does.look_is; uses_are = fits.does.uses_are; uses_wide = fits.does.uses_wide; few_uses = fits.does.few_uses; few_clones = fits.does.few_clones };
      turns = record {
        turn_here = λ q inside is. let has = fits.turns.turn_here q inside is in absurd (let b : has_turn_at q (phase.Owing p) ≡ true = subst (λ ph. IsTrue (has_turn_at q ph)) owes has in cc);
        ring_is = λ q inside has. absurd (let b = no_turn p q (w.note p) in cc);
      };
      owns = record { own_is = fits.owns.own_is; own_wide = fits.owns.own_wide };
    }

    pub swaps_note : IsEvent meaning suits senders places s r (event.SwapNote pass.number p) (stepped s (note_at p) 1 id held (at_phase to v) keeps)
    swaps_note = (
      may,
      (
        record {
          world = w';
          entries = r.entries;
          seat = r.seat;
          chief = r.chief;
          sized = record { places_are = r.sized.places_are; senders_are = r.sized.senders_are; some_place = r.sized.some_place; few_places = r.sized.few_places; few_senders = r.sized.few_senders; few_marks = r.sized.few_marks };
          sound = event_keeps (event.SwapNote pass.number p) w r.sound may;
          formed = worlds_are_well_formed.kept w (event.SwapNote pass.number p) r.formed may;
          marks = r.marks;
          suited = r.suited;
          words = set_note places w.refs w.turn w.sent (taken_in w) w.note w.life w.mail s.words r.sized.few_places r.words p 1 note.Pending refl near;
          mail_noted = r.mail_noted;
          slots = r.slots;
          views = pass_views w w' r.entries r.entries r.seat r.chief s.views r.views id v (at_phase to v) at (λ f so. so) [] (sym (append-nil v.seen)) (λ k f a. absurd (some-ne-none f (sym a))) pass (record pass { phase = to }) is_pass.0 refl refl
              (λ j q ne f. record { near = f.near; sits = f.sits; does = does_else w pass.number to q ne f.does; turns = f.turns; owns = f.owns })
              own
              (λ o f. record { does = f.does; turns = f.turns; jobs = f.jobs; clears = f.clears });
          tally = tally_set senders places w.life s.views r.tally id (at_phase to v) (λ k q a. subst (Lives senders places w.life s.views r.tally) (one_at (record pass { phase = to }) k q a) (let o = r.tally.each id v at 0 pass (subst (λ ps. get_elem? ps 0 ≡ some pass) (sym is_pass.0) refl) in record { created_are = o.created_are; freed_are = o.freed_are; created_wide = o.created_wide; freed_wide = o.freed_wide; found = o.found }));
          there = there_set senders r.seat r.chief s.views r.there id v (at_phase to v) at (keeps_one v (at_phase to v) pass (record pass { phase = to }) is_pass.0 refl refl refl);
        },
        refl,
      ),
    )
