-- The step by which a sender puts a job is its event.
use Rattle.post_core.specs.declared.slots.Item.{Item}
use Rattle.task_ring.specs.Ring.{RingView}
use Rattle.std.proofs.Common.{◌≡◌, ◌≢◌, ℕ, zero, suc, ◌+◌, ◌%◌, ◌^◌, ◌<◌, ◌≤◌, ◌==◌, Bool, true, false, Option, Some, None, List, [], ◌∷◌, ◌++◌, cond, count_by, length, map, set, take, drop, refl, arith, ap, sym, subst, ◌∙◌, append-nil, mod-eq_of_lt, length-set, length-append}
use Rattle.std.specs.Prelude.{IsTrue, slice_index}
use Rattle.std.proofs.lemmas.Bool.{eq-eqb, ne_eqb}
use Rattle.std.proofs.lemmas.List.{drop-append-le, length-map, map-append, take-append-le}
use Rattle.std.proofs.lemmas.List.Sums.{sum_by_push}
use mathlib.Core.Logic.{dite}
use mathlib.Core.Option.{some}
use native.Mathlib.Decide.{ℕ_discrete}
use lib.ListN.{get_elem?}
use Rattle.atomic_table.specs.Table.{State, keeps, stepped}
use Rattle.atomic_table.proofs.Lists.{at_longer}
use Rattle.proxy_laws.specs.declared.actors.Actor.TheVariants as actor
use Rattle.proxy_laws.specs.declared.actors.Phase.TheVariants as phase
use Rattle.proxy_laws.specs.declared.events.Event.TheVariants as event
use Rattle.proxy_laws.specs.declared.records.Mark.{Mark}
use Rattle.proxy_laws.specs.Events.{Enabled, world_after}
use Rattle.proxy_laws.specs.Lists.{is_by, job_at, next_mark}
use Rattle.proxy_laws.specs.Maps.{upd}
use Rattle.proxy_laws.specs.Phases.{has_turn_at}
use Rattle.proxy_laws.specs.Worlds.{WorldState}
use Rattle.proxy_laws.proofs.Inductive.{event_keeps}
use Rattle.proxy_laws.proofs.Maps.{upd_case, upd_here, upd_else}
use Rattle.proxy_laws.proofs.WellFormed.{worlds_are_well_formed}
use Rattle.post_core.specs.declared.views.Entry.{Entry}
use Rattle.post_core.specs.declared.views.Fact.{Fact}
use Rattle.post_core.specs.declared.views.Fact.TheVariants as fact
use Rattle.post_core.specs.declared.views.OwnerView.{OwnerView}
use Rattle.post_core.specs.declared.views.PassView.{PassView}
use Rattle.post_core.specs.declared.views.View.{View}
use Rattle.post_core.specs.Kept.{kept, kept_by, listed, marks_of}
use Rattle.post_core.specs.Records.{held_job}
use Rattle.post_core.specs.Rule.{IsEvent, IsSo, OwnerFits, PassFits, Shown, taken_in}
use Rattle.post_core.specs.Views.{IsPassView, job_put, pass_of}
use Rattle.post_core.specs.Words.{put_at}
use Rattle.post_core.proofs.Frames.{listed_else, listed_here, pass_views}
use Rattle.post_core.proofs.Members.{one_at}
use Rattle.post_core.proofs.Numbers.{few_put}
use Rattle.post_core.proofs.Present.{keeps_one, there_set}
use Rattle.post_core.proofs.Putting.{kept_count, kept_else, kept_more}
use Rattle.post_core.proofs.Sending.{does_else}
use Rattle.post_core.proofs.Tallied.{Lives, tally_set}
use Rattle.post_core.proofs.Words.{set_put}

counted_more : (u : ℕ) (ms : List Mark) (m : Mark) → count_by (is_by u) (ms ++ m ∷ []) ≡ count_by (is_by u) ms + cond (m.sender == u) 1 0
counted_more u ms m = sum_by_push (λ x. cond (is_by u x) 1 0) ms m

module _ {J M : Type 0} (meaning : J → M) (suits : ℕ → Mark → M → Type 0) (senders places : ℕ) (s : State (RingView (Item J)) (View M)) (r : Shown meaning suits senders places s) (id p tag : ℕ) (meant : M) (v : View M) (held : List (ℕ × RingView (Item J))) (at : get_elem? s.views id ≡ some v) (is_pass : IsPassView v) (near : p < places) (holding : (pass_of v).phase ≡ phase.Holding p) (room : length (listed (pass_of v).own p) < 281474976710656)
    (suit : suits p (record { sender = (pass_of v).number; seq = length (listed (pass_of v).own p); tag = tag }) meant) where
  abbrev w : WorldState
  w = r.world

  abbrev pass : PassView M
  pass = pass_of v

  abbrev t : ℕ
  t = pass.number

  first : get_elem? v.passes 0 ≡ some pass
  first = subst (λ ps. get_elem? ps 0 ≡ some pass) (sym is_pass.0) refl

  fits : PassFits w r.entries r.seat id pass
  fits = (r.views id v at).passes 0 pass first

  inside : p < w.places
  inside = let a = r.sized.places_are in omega arith

  phase_was : w.phase t ≡ phase.Holding p
  phase_was = fits.does.phase_is ∙ holding

  may : Enabled w (event.Put t p tag)
  may = record { there = record { sender = fits.near; place = inside }; conditions = phase_was }

  turn_is : w.turn p ≡ Some (actor.Sender t)
  turn_is = r.sound.turns.held t p fits.near inside (subst (λ ph. IsTrue (has_turn_at p ph)) (sym phase_was) (eq-eqb p p refl))

  abbrev w' : WorldState
  w' = world_after w (event.Put t p tag)

  abbrev e : Entry M
  e = record { mark = record { sender = t; seq = length (listed pass.own p); tag = tag }; meaning = meant }

  abbrev entries' : ℕ → List (Entry M)
  entries' = upd r.entries p (r.entries p ++ e ∷ [])

  mark_is : e.mark ≡ next_mark (w.sent p) t tag
  mark_is = λ i. record { sender = t; seq = (ap length (fits.owns.own_is p inside) ∙ (kept_count t (r.entries p) ∙ ap (count_by (is_by t)) (r.marks p))) i; tag = tag }

  marks' : (q : ℕ) → marks_of (entries' q) ≡ w'.sent q
  marks' q = dite (ℕ_discrete q p)
      (λ same. ap (λ k. marks_of (entries' k)) same ∙ (ap marks_of (upd_here r.entries p (r.entries p ++ e ∷ [])) ∙ (map-append (λ (x : Entry M). x.mark) (r.entries p) (e ∷ []) ∙ ((λ i. r.marks p i ++ mark_is i ∷ []) ∙ (sym (upd_here w.sent p (w.sent p ++ next_mark (w.sent p) t tag ∷ [])) ∙ ap w'.sent (sym same))))))
      (λ ne. ap marks_of (upd_else r.entries p (r.entries p ++ e ∷ []) q ne) ∙ (r.marks q ∙ sym (upd_else w.sent p (w.sent p ++ next_mark (w.sent p) t tag ∷ []) q ne)))

  wide : length (r.entries p) ≡ length (w.sent p)
  wide = let a = ap length (r.marks p) in omega (arith, length-map (r.entries p) (λ (x : Entry M). x.mark))

  taken_le : length (w.jobs p) ≤ length (r.entries p)
  taken_le = let a = r.sound.jobs.taken p inside in let b = wide in omega arith

  -- elsewhere nothing changes
  elsewhere : (q : ℕ) → w.turn q ≢ Some (actor.Sender t) → entries' q ≡ r.entries q
  elsewhere q ne = upd_else r.entries p (r.entries p ++ e ∷ []) q (λ same. ne (ap w.turn same ∙ turn_is))

  facts : (f : Fact M) → IsSo w.places w.refs r.entries w.jobs f → IsSo w'.places w'.refs entries' w'.jobs f
  facts fact.NoReferences so = so
  facts (fact.Reached q count) so = upd_case r.entries p (r.entries p ++ e ∷ []) (λ i es. (q < w.places) × (count ≤ length es)) q
      (λ same. (so.0, let a = so.1 in let b = ap (λ i. length (r.entries i)) same in omega (arith, length-append (r.entries p) (e ∷ [])))) (λ ne. so)
  facts (fact.Settled q k mark m f) so = upd_case r.entries p (r.entries p ++ e ∷ []) (λ i es. (q < w.places) × (get_elem? es k ≡ some (record { mark = mark; meaning = m })) × (k < length (w.jobs q)) × ((job_at (w.jobs q) k).fate ≡ Some f)) q
      (λ same. (so.0, at_longer (r.entries p) (e ∷ []) k _ (ap (λ i. get_elem? (r.entries i) k) (sym same) ∙ so.1), so.2, so.3)) (λ ne. so)

  abbrev to : PassView M
  to = pass_of (job_put p (length (r.entries p)) e v)

  -- the count has reached one more than the number of the new job
  news : IsSo w'.places w'.refs entries' w'.jobs (fact.Reached p (length (r.entries p) + 1))
  news = (inside, let a = ap length (upd_here r.entries p (r.entries p ++ e ∷ [])) in omega (arith, length-append (r.entries p) (e ∷ [])))

  own_here : listed to.own p ≡ listed pass.own p ++ kept (length (r.entries p)) e ∷ []
  own_here = listed_here pass.own p _ (let a = fits.owns.own_wide in let b = inside in omega arith)

  own : PassFits w' entries' r.seat id to
  own = record {
    near = fits.near;
    sits = fits.sits;
    does = record { phase_is = upd_here w.phase t (phase.Put p); look_is = fits.does.look_is; uses_are = fits.does.uses_are; uses_wide = fits.does.uses_wide; few_uses = fits.does.few_uses; few_clones = fits.does.few_clones };
    turns = record {
      turn_here = λ q below is. subst (λ ph. IsTrue (has_turn_at q ph)) holding (fits.turns.turn_here q below is);
      ring_is = λ q below has. dite (ℕ_discrete q p)
          (λ same. subst (λ k. pass.ring ++ e ∷ [] ≡ drop (length (w.jobs k)) (entries' k)) (sym same)
          ((λ i. fits.turns.ring_is p inside (subst (λ ph. IsTrue (has_turn_at p ph)) (sym holding) (eq-eqb p p refl)) i ++ e ∷ []) ∙ (sym (drop-append-le (length (w.jobs p)) (r.entries p) (e ∷ []) taken_le) ∙ ap (drop (length (w.jobs p))) (sym (upd_here r.entries p (r.entries p ++ e ∷ []))))))
          (λ ne. absurd (let a : (p == q) ≡ true = has in let b = ne_eqb p q (λ x. ne (sym x)) in cc));
    };
    owns = record {
      own_is = λ q below. dite (ℕ_discrete q p)
          (λ same. subst (λ k. listed to.own k ≡ kept_by t (entries' k)) (sym same)
          (own_here ∙ ((λ i. fits.owns.own_is p inside i ++ kept (length (r.entries p)) e ∷ []) ∙ (ap (λ n. kept_by t (r.entries p) ++ kept n e ∷ []) (let x : length (r.entries p) ≡ 0 + length (r.entries p) = omega arith in x) ∙ (sym (kept_more 0 t (r.entries p) e refl) ∙ ap (kept_by t) (sym (upd_here r.entries p (r.entries p ++ e ∷ []))))))))
          (λ ne. listed_else pass.own p _ q ne ∙ (fits.owns.own_is q below ∙ ap (kept_by t) (sym (upd_else r.entries p (r.entries p ++ e ∷ []) q ne))));
      own_wide = length-set pass.own p _ ∙ fits.owns.own_wide;
    };
  }

  others : (j : ℕ) (q : PassView M) → q.number ≢ t → PassFits w r.entries r.seat j q → PassFits w' entries' r.seat j q
  others j q ne f = record {
    near = f.near;
    sits = f.sits;
    does = does_else w t (phase.Put p) q ne f.does;
    turns = record {
      turn_here = f.turns.turn_here;
      ring_is = λ i below has. f.turns.ring_is i below has ∙ ap (drop (length (w.jobs i))) (sym (elsewhere i (λ is. ne (same_sender q.number t (sym (r.sound.turns.held q.number i f.near below (subst (λ ph. IsTrue (has_turn_at i ph)) (sym f.does.phase_is) has)) ∙ is)))));
    };
    owns = record {
      own_is = λ i below. f.owns.own_is i below ∙ upd_case r.entries p (r.entries p ++ e ∷ []) (λ k es. kept_by q.number (r.entries k) ≡ kept_by q.number es) i
          (λ same. ap (λ k. kept_by q.number (r.entries k)) same ∙ sym (kept_else 0 q.number (r.entries p) e (λ x. ne (sym x)))) (λ differ. refl);
      own_wide = f.owns.own_wide;
    };
  } where
    same_sender : (x y : ℕ) → Some (actor.Sender x) ≡ Some (actor.Sender y) → x ≡ y
    same_sender x y is = cc

  owners : (o : OwnerView M) → OwnerFits w r.entries o → OwnerFits w' entries' o
  owners o f = record {
    does = f.does;
    turns = record {
      turn_here = f.turns.turn_here;
      turn_held = f.turns.turn_held;
      ring_is = λ q is. f.turns.ring_is q is ∙ ap (drop (length (w.jobs q))) (sym (elsewhere q (λ has. let h = (f.turns.turn_held q is).1 in absurd (cc))));
    };
    jobs = record {
      jobs_are = f.jobs.jobs_are;
      marks_are = λ q below. f.jobs.marks_are q below ∙ upd_case r.entries p (r.entries p ++ e ∷ []) (λ k es. take (length (listed o.jobs q)) (r.entries k) ≡ take (length (listed o.jobs q)) es) q
          (λ same. ap (λ k. take (length (listed o.jobs q)) (r.entries k)) same ∙ sym (take-append-le (length (listed o.jobs q)) (r.entries p) (e ∷ []) (let a = ap length (f.jobs.jobs_are q below) in let b = taken_le in let c = ap (λ k. length (w.jobs k)) same in omega (arith, length-map (listed o.jobs q) held_job))))
          (λ ne. refl);
      jobs_wide = f.jobs.jobs_wide;
    };
    clears = f.clears;
  }

  counts : (q u : ℕ) → count_by (is_by u) (w'.sent q) ≤ 281474976710656
  counts q u = upd_case w.sent p (w.sent p ++ next_mark (w.sent p) t tag ∷ []) (λ k ms. count_by (is_by u) ms ≤ 281474976710656) q
      (λ same. let a : count_by (is_by u) (w.sent p ++ next_mark (w.sent p) t tag ∷ []) ≡ count_by (is_by u) (w.sent p) + cond {A = ℕ} (t == u) 1 0 = counted_more u (w.sent p) (next_mark (w.sent p) t tag) in dite (ℕ_discrete t u)
      (λ is. let b = ap length (fits.owns.own_is p inside) ∙ (kept_count t (r.entries p) ∙ ap (count_by (is_by t)) (r.marks p)) in let c = ap (λ k. count_by (is_by k) (w.sent p)) is in let d : cond {A = ℕ} (t == u) 1 0 ≡ 1 = ap (λ b. cond {A = ℕ} b 1 0) (eq-eqb t u is) in omega arith)
      (λ ne. let b = r.sized.few_marks p u in let d : cond {A = ℕ} (t == u) 1 0 ≡ 0 = ap (λ b. cond {A = ℕ} b 1 0) (ne_eqb t u ne) in omega arith))
      (λ ne. r.sized.few_marks q u)

  pub puts : IsEvent meaning suits senders places s r (event.Put t p tag) (stepped s (put_at p) ((slice_index s.words (put_at p) + 1) % 2 ^ 64) id held (job_put p (length (r.entries p)) e v) keeps)
  puts = (
    may,
    (
      record {
        world = w';
        entries = entries';
        seat = r.seat;
        chief = r.chief;
        sized = record { places_are = r.sized.places_are; senders_are = r.sized.senders_are; some_place = r.sized.some_place; few_places = r.sized.few_places; few_senders = r.sized.few_senders; few_marks = counts };
        sound = event_keeps (event.Put t p tag) w r.sound may;
        formed = worlds_are_well_formed.kept w (event.Put t p tag) r.formed may;
        marks = marks';
        suited = λ q n x there. suited_after q n x there;
        words = set_put places w.refs w.turn w.sent (taken_in w) w.note w.life w.mail s.words r.sized.few_places r.words p _ (w.sent p ++ next_mark (w.sent p) t tag ∷ []) counted near;
        mail_noted = r.mail_noted;
        slots = record {
          wide = r.slots.wide;
          ring_is = λ q below free. let h = r.slots.ring_is q below free in (h.0, h.1, h.2 ∙ ap (drop (length (w.jobs q))) (sym (elsewhere q (λ is. absurd (cc)))));
        };
        views = pass_views w w' r.entries entries' r.seat r.chief s.views r.views id v (job_put p (length (r.entries p)) e v) at facts (fact.Reached p (length (r.entries p) + 1) ∷ []) refl (λ k f a. subst (λ (x : Fact M). IsSo w'.places w'.refs entries' w'.jobs x) (one_at (fact.Reached p (length (r.entries p) + 1)) k f a) news) pass to is_pass.0 refl refl others own owners;
        tally = tally_set senders places w.life s.views r.tally id (job_put p (length (r.entries p)) e v) (λ k q a. subst (Lives senders places w.life s.views r.tally) (one_at to k q a) (let o = r.tally.each id v at 0 pass first in record { created_are = o.created_are; freed_are = o.freed_are; created_wide = o.created_wide; freed_wide = o.freed_wide; found = o.found }));
        there = there_set senders r.seat r.chief s.views r.there id v (job_put p (length (r.entries p)) e v) at (keeps_one v (job_put p (length (r.entries p)) e v) pass to is_pass.0 refl refl refl);
      },
      refl,
    ),
  ) where
    suited_after : (q n : ℕ) (x : Entry M) → get_elem? (entries' q) n ≡ some x → suits q x.mark x.meaning
    suited_after q n x there = dite (ℕ_discrete q p)
        (λ same. Rattle.std.proofs.Common.⊎_elim
        (λ h. r.suited q n x (ap (λ k. get_elem? (r.entries k) n) same ∙ h.1))
        (λ h. subst (λ k. suits k x.mark x.meaning) (sym same) (subst (λ (y : Entry M). suits p y.mark y.meaning) h.1 suit))
        (Rattle.post_core.proofs.Members.at_end (r.entries p) e x n (sym (ap (λ k. get_elem? (entries' k) n) same ∙ ap (λ es. get_elem? es n) (upd_here r.entries p (r.entries p ++ e ∷ []))) ∙ there)))
        (λ ne. r.suited q n x (sym (ap (λ es. get_elem? es n) (upd_else r.entries p (r.entries p ++ e ∷ []) q ne)) ∙ there))

    counted : (slice_index s.words (put_at p) + 1) % 2 ^ 64 ≡ length (w.sent p ++ next_mark (w.sent p) t tag ∷ [])
    counted = let a = r.words.put_is p near in let b = few_put w p r.formed (let e = r.sized.places_are in omega arith) (let c = r.sized.senders_are in let d = r.sized.few_senders in omega arith) (r.sized.few_marks p) in
        mod-eq_of_lt (omega arith) ∙ omega (arith, length-append (w.sent p) (next_mark (w.sent p) t tag ∷ []))
