-- The step by which the owner settles a job is its event, and the owner has then seen the job's mark, meaning and fate.
use Rattle.post_core.specs.declared.slots.Item.{Item}
use Rattle.task_ring.specs.Ring.{RingView}
use Rattle.std.proofs.Common.{◌≡◌, ◌≢◌, ℕ, zero, suc, ◌<◌, Some, None, List, [], ◌∷◌, length, map, get_or, set, take, refl, arith, ap, sym, subst, ◌∙◌, length-set}
use Rattle.std.specs.Prelude.{slice_get}
use Rattle.std.proofs.lemmas.List.{get_or-set_same, get_or-set_other, length-map, map-set, get_or-map}
use Rattle.std.proofs.lemmas.Option.{get_or_from_slice_get}
use Rattle.std.proofs.Math.Seq.{map-set_same}
use mathlib.Core.Logic.{dite}
use mathlib.Core.Option.{some, some-injective, some-ne-none}
use native.Mathlib.Decide.{ℕ_discrete}
use lib.ListN.{get_elem?}
use Rattle.atomic_table.specs.Table.{State, keeps, stepped}
use Rattle.atomic_table.proofs.Lists.{at_map}
use Rattle.proxy_laws.specs.declared.records.FateMark.{FateMark}
use Rattle.proxy_laws.specs.declared.records.Job.{Job}
use Rattle.proxy_laws.specs.declared.records.Mark.{Mark}
use Rattle.proxy_laws.specs.declared.records.Started.TheVariants as started
use Rattle.proxy_laws.specs.Events.{Enabled}
use Rattle.proxy_laws.specs.Lists.{active_job, job_at, with_fate}
use Rattle.proxy_laws.specs.Maps.{upd}
use Rattle.proxy_laws.specs.Sound.{Sound}
use Rattle.proxy_laws.specs.Worlds.{WorldState, IsWellFormed}
use Rattle.proxy_laws.proofs.Inductive.{event_keeps}
use Rattle.proxy_laws.proofs.Maps.{upd_case}
use Rattle.proxy_laws.proofs.WellFormed.{worlds_are_well_formed}
use Rattle.post_core.specs.declared.views.Entry.{Entry}
use Rattle.post_core.specs.declared.views.Fact.{Fact}
use Rattle.post_core.specs.declared.views.Fact.TheVariants as fact
use Rattle.post_core.specs.declared.views.Held.{Held}
use Rattle.post_core.specs.declared.views.OwnerView.{OwnerView}
use Rattle.post_core.specs.declared.views.View.{View}
use Rattle.post_core.specs.Kept.{listed}
use Rattle.post_core.specs.Records.{held_entry, held_job}
use Rattle.post_core.specs.Rule.{IsEvent, IsSo, OwnerFits, OwnerJobs, Shown, taken_in}
use Rattle.proxy_laws.specs.Settling.{settle_event, settler}
use Rattle.proxy_laws.proofs.Settled.{can_settle, world_after_settle}
use Rattle.post_core.specs.Views.{job_settled, owner_of, settled_as, settled_held}
use Rattle.post_core.specs.Words.{settled_at}
use Rattle.post_core.proofs.Ended.{at_get}
use Rattle.post_core.proofs.Frames.{listed_else, listed_here, owner_taken, owner_views, pass_taken, slots_taken}
use Rattle.post_core.proofs.Present.{keeps_same, there_set}
use Rattle.post_core.proofs.Tallied.{tally_set}
use Rattle.post_core.proofs.Words.{set_settled}

one_at : {X : Type 0} (x : X) (k : ℕ) (y : X) → get_elem? (x ∷ []) k ≡ some y → x ≡ y
one_at x zero y at = some-injective x y at
one_at x (suc k) y at = absurd (some-ne-none y (sym at))

module _ {J M : Type 0} (meaning : J → M) (suits : ℕ → Mark → M → Type 0) (senders places : ℕ) (s : State (RingView (Item J)) (View M)) (r : Shown meaning suits senders places s) (id p n : ℕ) (f : FateMark) (v : View M) (held : List (ℕ × RingView (Item J))) (at : get_elem? s.views id ≡ some v) (is_owner : v.owner ≡ Some (owner_of v)) (h : Held M)
    (near : p < places) (inner : n < length (listed (owner_of v).jobs p)) (held_is : slice_get (listed (owner_of v).jobs p) n ≡ Some h) (active : h.fate ≡ None) (can : (owner_of v).state ≡ settler f) (x : ℕ) where
  abbrev w : WorldState
  w = r.world

  abbrev o : OwnerView M
  o = owner_of v

  abbrev hs : List (Held M)
  hs = listed o.jobs p

  of : OwnerFits w r.entries o
  of = ((r.views id v at).owner o is_owner).1

  inside : p < w.places
  inside = let a = r.sized.places_are in omega arith

  is_h : (d : Held M) → get_or hs n d ≡ h
  is_h d = get_or_from_slice_get hs n h d held_is

  jobs_here : map held_job hs ≡ w.jobs p
  jobs_here = of.jobs.jobs_are p inside

  job_is : job_at (w.jobs p) n ≡ held_job h
  job_is = ap (λ js. job_at js n) (sym jobs_here) ∙ (get_or-map held_job hs n h (active_job started.Direct) inner ∙ ap held_job (is_h h))

  long : length hs ≡ length (w.jobs p)
  long = let a = ap length jobs_here in omega (arith, length-map hs held_job)

  may : Enabled w (settle_event f p n)
  may = can_settle w f p n inside (let a = long in omega arith, ap (λ (j : Job). j.fate) job_is ∙ active) (of.does.state_is ∙ can)

  abbrev w' : WorldState
  w' = record w { jobs = upd w.jobs p (with_fate (w.jobs p) n f) }

  same_taken : (q : ℕ) → taken_in w' q ≡ taken_in w q
  same_taken q = upd_case w.jobs p (with_fate (w.jobs p) n f) (λ k js. length js ≡ length (w.jobs k)) q
      (λ same. length-set (w.jobs p) n (record { started = (job_at (w.jobs p) n).started; fate = Some f }) ∙ ap (λ k. length (w.jobs k)) (sym same))
      (λ ne. refl)

  abbrev v' : View M
  v' = settled_as p n f (Some h) v

  abbrev o' : OwnerView M
  o' = owner_of v'

  abbrev hs' : List (Held M)
  hs' = set hs n (settled_held f h)

  here : listed o'.jobs p ≡ hs'
  here = listed_here o.jobs p hs' (let a = of.jobs.jobs_wide in omega arith)

  own_jobs : OwnerJobs w.places r.entries w'.jobs o'
  own_jobs = record {
    jobs_are = λ q at_q. upd_case w.jobs p (with_fate (w.jobs p) n f) (λ k js. map held_job (listed o'.jobs k) ≡ js) q
        (λ same. ap (λ k. map held_job (listed o'.jobs k)) same ∙ (ap (map held_job) here ∙ (map-set held_job hs n (settled_held f h)
        ∙ (λ i. set (jobs_here i) n (record { started = (sym job_is i).started; fate = Some f })))))
        (λ ne. ap (map held_job) (listed_else o.jobs p hs' q ne) ∙ of.jobs.jobs_are q at_q);
    marks_are = λ q at_q. dite (ℕ_discrete q p)
        (λ same. subst (λ k. map held_entry (listed o'.jobs k) ≡ take (length (listed o'.jobs k)) (r.entries k)) (sym same)
        (ap (map held_entry) here ∙ (map-set_same held_entry hs n (settled_held f h) h (sym (ap held_entry (is_h h)))
        ∙ (of.jobs.marks_are p inside ∙ ap (λ k. take k (r.entries p)) (sym (ap length here ∙ length-set hs n (settled_held f h)))))))
        (λ ne. subst (λ ks. map held_entry ks ≡ take (length ks) (r.entries q)) (sym (listed_else o.jobs p hs' q ne)) (of.jobs.marks_are q at_q));
    jobs_wide = length-set o.jobs p hs' ∙ of.jobs.jobs_wide;
  }

  own : OwnerFits w' r.entries o'
  own = record {
    does = record {
      state_is = of.does.state_is;
      serving_is = of.does.serving_is;
      serving_wide = of.does.serving_wide;
      got_is = of.does.got_is;
    };
    turns = let t = owner_taken w.places w.turn (taken_in w) (taken_in w') r.entries o (λ q at_q. same_taken q) of.turns in record {
      turn_here = t.turn_here;
      turn_held = t.turn_held;
      ring_is = t.ring_is;
    };
    jobs = own_jobs;
    clears = record { clear = of.clears.clear; noticed = of.clears.noticed };
  }

  kept : (q k : ℕ) (g : FateMark) → k < length (w.jobs q) → (job_at (w.jobs q) k).fate ≡ Some g → (k < length (w'.jobs q)) × ((job_at (w'.jobs q) k).fate ≡ Some g)
  kept q k g below is = upd_case w.jobs p (with_fate (w.jobs p) n f) (λ i js. (k < length js) × ((job_at js k).fate ≡ Some g)) q
      (λ same. let other : k ≢ n = λ e. let a = ap (λ (j : Job). j.fate) job_is ∙ active in let b = ap (λ i. (job_at (w.jobs i) k).fate) (sym same) ∙ is in let c = ap (λ i. (job_at (w.jobs p) i).fate) e in cc in (
        let a = ap (λ i. length (w.jobs i)) same in omega (arith, length-set (w.jobs p) n (record { started = (job_at (w.jobs p) n).started; fate = Some f })),
        ap (λ (j : Job). j.fate) (get_or-set_other (w.jobs p) n k (record { started = (job_at (w.jobs p) n).started; fate = Some f }) (active_job started.Direct) other) ∙ (ap (λ i. (job_at (w.jobs i) k).fate) (sym same) ∙ is),
      ))
      (λ ne. (below, is))

  facts : (g : Fact M) → IsSo w.places w.refs r.entries w.jobs g → IsSo w.places w.refs r.entries w'.jobs g
  facts fact.NoReferences so = so
  facts (fact.Reached q count) so = so
  facts (fact.Settled q k mark meant g) so = let b = kept q k g so.2 so.3 in (so.0, so.1, b.0, b.1)

  -- the fact that it has seen now
  news : IsSo w.places w.refs r.entries w'.jobs (fact.Settled p n h.mark h.meaning f)
  news = (
    inside,
    entry_is,
    (let a = same_taken p in let b = long in omega arith),
    upd_case w.jobs p (with_fate (w.jobs p) n f) (λ i js. (job_at js n).fate ≡ Some f) p
        (λ same. ap (λ (j : Job). j.fate) (get_or-set_same (w.jobs p) n (record { started = (job_at (w.jobs p) n).started; fate = Some f }) (active_job started.Direct) (let b = long in omega arith)))
        (λ ne. absurd (ne refl)),
  ) where
    entry_is : get_elem? (r.entries p) n ≡ some (held_entry h)
    entry_is = front (r.entries p) (length hs) n (held_entry h) (subst (λ es. get_elem? es n ≡ some (held_entry h)) (of.jobs.marks_are p inside) (at_map held_entry hs n h (at_get hs n h inner ∙ ap some (is_h h)))) where
      front : (es : List (Entry M)) (m k : ℕ) (e : Entry M) → get_elem? (take m es) k ≡ some e → get_elem? es k ≡ some e
      front [] zero k e a = a
      front [] (suc m) k e a = a
      front (y ∷ es) zero k e a = absurd (some-ne-none e (sym a))
      front (y ∷ es) (suc m) zero e a = a
      front (y ∷ es) (suc m) (suc k) e a = front es m k e a

  settles_as : IsEvent meaning suits senders places s r (settle_event f p n) (stepped s (settled_at p) x id held v' keeps)
  settles_as = (
    may,
    (
      record {
        world = w';
        entries = r.entries;
        seat = r.seat;
        chief = r.chief;
        sized = record { places_are = r.sized.places_are; senders_are = r.sized.senders_are; some_place = r.sized.some_place; few_places = r.sized.few_places; few_senders = r.sized.few_senders; few_marks = r.sized.few_marks };
        sound = subst Sound (world_after_settle w f p n) (event_keeps (settle_event f p n) w r.sound may);
        formed = subst IsWellFormed (world_after_settle w f p n) (worlds_are_well_formed.kept w (settle_event f p n) r.formed may);
        marks = r.marks;
        suited = r.suited;
        words = set_settled places w.refs w.turn w.sent (taken_in w) w.note w.life w.mail s.words r.sized.few_places r.words p x (taken_in w') (λ q at_q. same_taken q) near;
        mail_noted = r.mail_noted;
        slots = slots_taken places w.turn (taken_in w) (taken_in w') r.entries meaning suits senders s.homes (λ q at_q free. same_taken q) r.slots;
        views = owner_views w w' r.entries r.entries r.seat r.chief s.views r.views id v v' at facts (fact.Settled p n h.mark h.meaning f ∷ []) refl (λ k g a. subst (IsSo w.places w.refs r.entries w'.jobs) (one_at (fact.Settled p n h.mark h.meaning f) k g a) news) o o' is_owner refl refl
            (λ j pass g. record { near = g.near; sits = g.sits; does = g.does; owns = g.owns; turns = pass_taken w.places w.turn (taken_in w) (taken_in w') r.entries pass (λ q at_q has. same_taken q) g.turns })
            own;
        tally = tally_set senders places w.life s.views r.tally id v' (λ k q a. r.tally.each id v at k q a);
        there = there_set senders r.seat r.chief s.views r.there id v v' at (keeps_same v v' refl o' refl);
      },
      sym (world_after_settle w f p n),
    ),
  )

  pub settles : IsEvent meaning suits senders places s r (settle_event f p n) (stepped s (settled_at p) x id held (job_settled p n f v) keeps)
  settles = subst (λ g. IsEvent meaning suits senders places s r (settle_event f p n) (stepped s (settled_at p) x id held (settled_as p n f g v) keeps)) (sym held_is) settles_as
