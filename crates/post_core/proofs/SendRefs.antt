-- The steps of senders on the references of a target, each of which is its event.
use Rattle.post_core.specs.declared.slots.Item.{Item}
use Rattle.task_ring.specs.Ring.{RingView}
use Rattle.std.proofs.Common.{◌≡◌, ℕ, suc, ◌+◌, ◌-◌, ◌≤◌, true, false, List, [], ◌∷◌, ◌++◌, set, refl, arith, ap, sym, subst, ◌∙◌, append-nil}
use Rattle.std.specs.Prelude.{IsTrue, slice_index, ◌||◌}
use Rattle.std.specs.List.{list_any}
use Rattle.std.proofs.lemmas.List.{set-get_or}
use mathlib.Core.Option.{some, some-ne-none}
use lib.ListN.{get_elem?}
use Rattle.atomic_table.specs.Table.{State, keeps, stepped}
use Rattle.proxy_laws.specs.declared.actors.Phase.TheVariants as phase
use Rattle.proxy_laws.specs.declared.events.Event.TheVariants as event
use Rattle.proxy_laws.specs.declared.records.FateMark.TheVariants as fate
use Rattle.proxy_laws.specs.declared.records.Mark.{Mark}
use Rattle.proxy_laws.specs.Events.{Enabled, world_after}
use Rattle.proxy_laws.specs.Lists.{active_job}
use Rattle.proxy_laws.specs.declared.records.Started.TheVariants as started
use Rattle.proxy_laws.specs.Phases.{has_turn_at, is_idle}
use Rattle.proxy_laws.specs.Worlds.{WorldState}
use Rattle.proxy_laws.proofs.Inductive.{event_keeps}
use Rattle.proxy_laws.proofs.Maps.{upd_here}
use Rattle.proxy_laws.proofs.References.{has_reference}
use Rattle.proxy_laws.proofs.WellFormed.{worlds_are_well_formed}
use Rattle.post_core.specs.declared.views.Fact.{Fact}
use Rattle.post_core.specs.declared.views.Fact.TheVariants as fact
use Rattle.post_core.specs.declared.views.PassView.{PassView}
use Rattle.post_core.specs.declared.views.View.{View}
use Rattle.post_core.specs.Rule.{IsEvent, IsSo, PassFits, Shown, taken_in}
use Rattle.post_core.specs.SendSteps.{has_seen_closed, says_closed}
use Rattle.post_core.specs.Views.{IsPassView, at_phase, pass_of}
use Rattle.post_core.specs.Words.{WordsShow, refs_at}
use Rattle.post_core.proofs.Frames.{pass_views}
use Rattle.post_core.proofs.Members.{one_at}
use Rattle.post_core.proofs.Numbers.{refs_few}
use Rattle.post_core.proofs.Present.{keeps_one, there_set}
use Rattle.post_core.proofs.Sending.{does_else}
use Rattle.post_core.proofs.Tallied.{Lives, tally_set}
use Rattle.post_core.proofs.Words.{set_refs}

-- no fact of these says that the target is closed
none_says : {M : Type 0} (fs : List (Fact M)) → ((k : ℕ) (f : Fact M) → get_elem? fs k ≡ some f → says_closed f ≡ false) → list_any says_closed fs ≡ false
none_says [] each = refl
none_says (f ∷ fs) each = ap (λ b. b || list_any says_closed fs) (each 0 f refl) ∙ none_says fs (λ k g at. each (suc k) g at)

module _ {J M : Type 0} (meaning : J → M) (suits : ℕ → Mark → M → Type 0) (senders places : ℕ) (s : State (RingView (Item J)) (View M)) (r : Shown meaning suits senders places s) (id : ℕ) (v : View M) (held : List (ℕ × RingView (Item J))) (at : get_elem? s.views id ≡ some v) (is_pass : IsPassView v) where
  abbrev w : WorldState
  w = r.world

  abbrev pass : PassView M
  pass = pass_of v

  abbrev t : ℕ
  t = pass.number

  first : get_elem? v.passes 0 ≡ some pass
  first = subst (λ ps. get_elem? ps 0 ≡ some pass) (sym is_pass.0) refl

  fits : PassFits w r.entries r.seat id pass
  fits = (r.views id v at).passes 0 pass first

  same_words : (x : ℕ) → x ≡ slice_index s.words refs_at → set s.words refs_at x ≡ s.words
  same_words x is = ap (λ k. set s.words refs_at k) is ∙ set-get_or s.words refs_at 0

  pub few_refs : w.refs ≤ 65
  few_refs = refs_few meaning suits senders places s r

  -- where there is a reference, nothing that was seen says that the target is closed
  pub not_seen_closed : 1 ≤ w.refs → has_seen_closed v ≡ false
  not_seen_closed some_left = none_says v.seen (λ k f f_at. still f ((r.views id v at).seen k f f_at)) where
    still : (f : Fact M) → IsSo w.places w.refs r.entries w.jobs f → says_closed f ≡ false
    still fact.NoReferences so = absurd (omega arith)
    still (fact.Settled p k mark m fate.Finished) so = refl
    still (fact.Settled p k mark m fate.Cancelled) so = let closed = (r.sound.jobs.each p so.0 k (active_job started.Direct) so.2).cancelled so.3 in let none = r.sound.closed closed in absurd (omega arith)
    still (fact.Reached p count) so = refl

  -- LoadRefs, after which the pass may have seen that there is none
  module _ (idle : pass.phase ≡ phase.Idle) where
    phase_was : w.phase t ≡ phase.Idle
    phase_was = fits.does.phase_is ∙ idle

    may_load : Enabled w (event.LoadRefs t)
    may_load = record { there = record { sender = fits.near; place = tt }; conditions = phase_was }

    pub loads_refs : (x : ℕ) → x ≡ slice_index s.words refs_at → (v' : View M) → v'.passes ≡ pass ∷ [] → v'.owner ≡ v.owner → (more : List (Fact M)) → v'.seen ≡ v.seen ++ more → ((k : ℕ) (f : Fact M) → get_elem? more k ≡ some f → IsSo w.places w.refs r.entries w.jobs f)
        → IsEvent meaning suits senders places s r (event.LoadRefs t) (stepped s refs_at x id held v' keeps)
    loads_refs x is v' passes_are owner_is more seen_is news = (
      may_load,
      (
        record {
          world = w;
          entries = r.entries;
          seat = r.seat;
          chief = r.chief;
          sized = r.sized;
          sound = r.sound;
          formed = r.formed;
          marks = r.marks;
          suited = r.suited;
          words = subst (λ ws. WordsShow places w.refs w.turn w.sent (taken_in w) w.note w.life w.mail ws) (sym (same_words x is)) r.words;
          mail_noted = r.mail_noted;
          slots = r.slots;
          views = pass_views w w r.entries r.entries r.seat r.chief s.views r.views id v v' at (λ f so. so) more seen_is news pass pass is_pass.0 passes_are owner_is (λ j q ne f. f) fits (λ o f. f);
          tally = tally_set senders places w.life s.views r.tally id v' (λ k q a. r.tally.each id v at k q (subst (λ ps. get_elem? ps k ≡ some q) (passes_are ∙ sym is_pass.0) a));
          there = there_set senders r.seat r.chief s.views r.there id v v' at (keeps_one v v' pass pass is_pass.0 passes_are refl owner_is);
        },
        refl,
      ),
    )

    -- AddRef, where there is one already
    module _ (some_left : 1 ≤ w.refs) where
      may_add : Enabled w (event.AddRef t)
      may_add = record { there = record { sender = fits.near; place = tt }; conditions = (phase_was, some_left) }

      abbrev w1 : WorldState
      w1 = world_after w (event.AddRef t)

      abbrev to : PassView M
      to = record pass { phase = phase.Referenced }

      facts_added : (f : Fact M) → IsSo w.places w.refs r.entries w.jobs f → IsSo w1.places w1.refs r.entries w1.jobs f
      facts_added fact.NoReferences so = absurd (omega arith)
      facts_added (fact.Reached q count) so = so
      facts_added (fact.Settled q k mark m f) so = so

      own_added : PassFits w1 r.entries r.seat id to
      own_added = record {
        near = fits.near;
        sits = fits.sits;
        does = record { phase_is = upd_here w.phase t phase.Referenced; look_is = fits.does.look_is; uses_are = fits.does.uses_are; uses_wide = fits.does.uses_wide; few_uses = fits.does.few_uses; few_clones = fits.does.few_clones };
        turns = record {
          turn_here = λ q below is. absurd (let b : has_turn_at q phase.Idle ≡ true = subst (λ ph. IsTrue (has_turn_at q ph)) idle (fits.turns.turn_here q below is) in cc);
          ring_is = λ q below has. absurd (cc);
        };
        owns = record { own_is = fits.owns.own_is; own_wide = fits.owns.own_wide };
      }

      pub adds_ref : (x : ℕ) → x ≡ w.refs + 1 → IsEvent meaning suits senders places s r (event.AddRef t) (stepped s refs_at x id held (at_phase phase.Referenced v) keeps)
      adds_ref x is = (
        may_add,
        (
          record {
            world = w1;
            entries = r.entries;
            seat = r.seat;
            chief = r.chief;
            sized = record { places_are = r.sized.places_are; senders_are = r.sized.senders_are; some_place = r.sized.some_place; few_places = r.sized.few_places; few_senders = r.sized.few_senders; few_marks = r.sized.few_marks };
            sound = event_keeps (event.AddRef t) w r.sound may_add;
            formed = worlds_are_well_formed.kept w (event.AddRef t) r.formed may_add;
            marks = r.marks;
            suited = r.suited;
            words = subst (λ n. WordsShow places n w.turn w.sent (taken_in w) w.note w.life w.mail (set s.words refs_at x)) is (set_refs places w.refs w.turn w.sent (taken_in w) w.note w.life w.mail s.words r.sized.few_places r.words x);
            mail_noted = r.mail_noted;
            slots = r.slots;
            views = pass_views w w1 r.entries r.entries r.seat r.chief s.views r.views id v (at_phase phase.Referenced v) at facts_added [] (sym (append-nil v.seen)) (λ k f a. absurd (some-ne-none f (sym a))) pass to is_pass.0 refl refl
                (λ j q ne f. record { near = f.near; sits = f.sits; does = does_else w t phase.Referenced q ne f.does; turns = f.turns; owns = f.owns })
                own_added
                (λ o f. record { does = f.does; turns = f.turns; jobs = f.jobs; clears = f.clears });
            tally = tally_set senders places w.life s.views r.tally id (at_phase phase.Referenced v) (λ k q a. subst (Lives senders places w.life s.views r.tally) (one_at to k q a) (let o = r.tally.each id v at 0 pass first in record { created_are = o.created_are; freed_are = o.freed_are; created_wide = o.created_wide; freed_wide = o.freed_wide; found = o.found }));
            there = there_set senders r.seat r.chief s.views r.there id v (at_phase phase.Referenced v) at (keeps_one v (at_phase phase.Referenced v) pass to is_pass.0 refl refl refl);
          },
          refl,
        ),
      )

  -- DropRef
  module _ (referenced : pass.phase ≡ phase.Referenced) where
    phase_held : w.phase t ≡ phase.Referenced
    phase_held = fits.does.phase_is ∙ referenced

    may_drop : Enabled w (event.DropRef t)
    may_drop = record { there = record { sender = fits.near; place = tt }; conditions = phase_held }

    pub has_ref : 1 ≤ w.refs
    has_ref = has_reference w t r.sound fits.near (ap is_idle phase_held)

    abbrev w2 : WorldState
    w2 = world_after w (event.DropRef t)

    abbrev back : PassView M
    back = record pass { phase = phase.Idle }

    facts_dropped : (f : Fact M) → IsSo w.places w.refs r.entries w.jobs f → IsSo w2.places w2.refs r.entries w2.jobs f
    facts_dropped fact.NoReferences so = omega arith
    facts_dropped (fact.Reached q count) so = so
    facts_dropped (fact.Settled q k mark m f) so = so

    own_dropped : PassFits w2 r.entries r.seat id back
    own_dropped = record {
      near = fits.near;
      sits = fits.sits;
      does = record { phase_is = upd_here w.phase t phase.Idle; look_is = fits.does.look_is; uses_are = fits.does.uses_are; uses_wide = fits.does.uses_wide; few_uses = fits.does.few_uses; few_clones = fits.does.few_clones };
      turns = record {
        turn_here = λ q below is. absurd (let b : has_turn_at q phase.Referenced ≡ true = subst (λ ph. IsTrue (has_turn_at q ph)) referenced (fits.turns.turn_here q below is) in cc);
        ring_is = λ q below has. absurd (cc);
      };
      owns = record { own_is = fits.owns.own_is; own_wide = fits.owns.own_wide };
    }

    pub drops_ref : (x : ℕ) → x ≡ w.refs - 1 → IsEvent meaning suits senders places s r (event.DropRef t) (stepped s refs_at x id held (at_phase phase.Idle v) keeps)
    drops_ref x is = (
      may_drop,
      (
        record {
          world = w2;
          entries = r.entries;
          seat = r.seat;
          chief = r.chief;
          sized = record { places_are = r.sized.places_are; senders_are = r.sized.senders_are; some_place = r.sized.some_place; few_places = r.sized.few_places; few_senders = r.sized.few_senders; few_marks = r.sized.few_marks };
          sound = event_keeps (event.DropRef t) w r.sound may_drop;
          formed = worlds_are_well_formed.kept w (event.DropRef t) r.formed may_drop;
          marks = r.marks;
          suited = r.suited;
          words = subst (λ n. WordsShow places n w.turn w.sent (taken_in w) w.note w.life w.mail (set s.words refs_at x)) is (set_refs places w.refs w.turn w.sent (taken_in w) w.note w.life w.mail s.words r.sized.few_places r.words x);
          mail_noted = r.mail_noted;
          slots = r.slots;
          views = pass_views w w2 r.entries r.entries r.seat r.chief s.views r.views id v (at_phase phase.Idle v) at facts_dropped [] (sym (append-nil v.seen)) (λ k f a. absurd (some-ne-none f (sym a))) pass back is_pass.0 refl refl
              (λ j q ne f. record { near = f.near; sits = f.sits; does = does_else w t phase.Idle q ne f.does; turns = f.turns; owns = f.owns })
              own_dropped
              (λ o f. record { does = f.does; turns = f.turns; jobs = f.jobs; clears = f.clears });
          tally = tally_set senders places w.life s.views r.tally id (at_phase phase.Idle v) (λ k q a. subst (Lives senders places w.life s.views r.tally) (one_at back k q a) (let o = r.tally.each id v at 0 pass first in record { created_are = o.created_are; freed_are = o.freed_are; created_wide = o.created_wide; freed_wide = o.freed_wide; found = o.found }));
          there = there_set senders r.seat r.chief s.views r.there id v (at_phase phase.Idle v) at (keeps_one v (at_phase phase.Idle v) pass back is_pass.0 refl refl refl);
        },
        refl,
      ),
    )
