-- The owner's steps, each of which is its event.
use Rattle.post_core.specs.declared.slots.Item.{Item}
use Rattle.task_ring.specs.Ring.{RingView}
use Rattle.std.proofs.Common.{◌≡◌, ◌≢◌, ℕ, zero, suc, ◌+◌, ◌%◌, ◌^◌, ◌<◌, Some, None, List, [], ◌∷◌, ◌++◌, length, map, get_or, take, drop, refl, arith, ap, sym, subst, ◌∙◌, length-append, length-set, length-drop, append-nil, mod-eq_of_lt}
use Rattle.std.specs.Prelude.{IsTrue, slice_index}
use Rattle.std.proofs.lemmas.List.{length-map, map-append}
use Rattle.std.proofs.Math.Seq.{map-set_same}
use mathlib.Core.Logic.{dite}
use mathlib.Core.Option.{some, some-ne-none}
use native.Mathlib.Decide.{ℕ_discrete}
use lib.ListN.{get_elem?}
use Rattle.atomic_table.specs.Table.{State, keeps, stepped}
use Rattle.proxy_laws.specs.declared.actors.Actor.TheVariants as actor
use Rattle.proxy_laws.specs.declared.actors.Serving.TheVariants as serving
use Rattle.proxy_laws.specs.declared.events.Event.TheVariants as event
use Rattle.proxy_laws.specs.declared.records.Job.{Job}
use Rattle.proxy_laws.specs.declared.records.Mark.{Mark}
use Rattle.proxy_laws.specs.declared.records.Started.{Started}
use Rattle.proxy_laws.specs.declared.records.Started.TheVariants as started
use Rattle.proxy_laws.specs.Events.{Enabled, world_after}
use Rattle.proxy_laws.specs.Lists.{active_job, job_at, start_under}
use Rattle.proxy_laws.specs.Phases.{has_turn_at, is_working}
use Rattle.proxy_laws.specs.Worlds.{WorldState}
use Rattle.proxy_laws.proofs.Inductive.{event_keeps}
use Rattle.proxy_laws.proofs.Maps.{upd_case, upd_here, upd_else}
use Rattle.proxy_laws.proofs.WellFormed.{worlds_are_well_formed}
use Rattle.post_core.specs.declared.views.Entry.{Entry}
use Rattle.post_core.specs.declared.views.Fact.{Fact}
use Rattle.post_core.specs.declared.views.Fact.TheVariants as fact
use Rattle.post_core.specs.declared.views.Held.{Held}
use Rattle.post_core.specs.declared.views.OwnerView.{OwnerView}
use Rattle.post_core.specs.declared.views.View.{View}
use Rattle.post_core.specs.Kept.{listed}
use Rattle.post_core.specs.Records.{held_entry, held_job}
use Rattle.post_core.specs.Rule.{IsEvent, IsSo, OwnerFits, OwnerJobs, Shown, taken_in}
use Rattle.post_core.specs.Views.{first_held, job_taken, owner_of}
use Rattle.post_core.specs.Words.{taken_at}
use Rattle.post_core.proofs.Frames.{listed_else, listed_here, owner_views, pass_taken, slots_taken}
use Rattle.post_core.proofs.Numbers.{few_put}
use Rattle.post_core.proofs.Present.{keeps_same, there_set}
use Rattle.post_core.proofs.Tallied.{tally_set}
use Rattle.post_core.proofs.Words.{set_taken}

module _ {X : Type 0} where
  take_one : (xs : List X) (n : ℕ) (x : X) (rest : List X) → drop n xs ≡ x ∷ rest → take (suc n) xs ≡ take n xs ++ x ∷ []
  take_one [] n x rest is = absurd (let a = ap length is in omega (arith, length-drop {A = X} n []))
  take_one (y ∷ xs) zero x rest is = ap (λ ys. take 1 ys) is
  take_one (y ∷ xs) (suc n) x rest is = ap (λ (ys : List X). y ∷ ys) (take_one xs n x rest is)

  pub take_next : (xs : List X) (n : ℕ) (x : X) (rest : List X) → drop n xs ≡ x ∷ rest → take (n + 1) xs ≡ take n xs ++ x ∷ []
  take_next xs n x rest is = ap (λ k. take k xs) (let e : n + 1 ≡ suc n = omega arith in e) ∙ take_one xs n x rest is

  drop_one : (xs : List X) (n : ℕ) (x : X) (rest : List X) → drop n xs ≡ x ∷ rest → drop (suc n) xs ≡ rest
  drop_one [] n x rest is = absurd (let a = ap length is in omega (arith, length-drop {A = X} n []))
  drop_one (y ∷ xs) zero x rest is = ap (λ ys. drop 1 ys) is
  drop_one (y ∷ xs) (suc n) x rest is = drop_one xs n x rest is

  pub drop_next : (xs : List X) (n : ℕ) (x : X) (rest : List X) → drop n xs ≡ x ∷ rest → drop (n + 1) xs ≡ rest
  drop_next xs n x rest is = ap (λ k. drop k xs) (let e : n + 1 ≡ suc n = omega arith in e) ∙ drop_one xs n x rest is

module _ {J M : Type 0} (meaning : J → M) (suits : ℕ → Mark → M → Type 0) (senders places : ℕ) (s : State (RingView (Item J)) (View M)) (r : Shown meaning suits senders places s) (id p : ℕ) (v : View M) (held : List (ℕ × RingView (Item J))) (at : get_elem? s.views id ≡ some v) (is_owner : v.owner ≡ Some (owner_of v)) where
  abbrev w : WorldState
  w = r.world

  abbrev o : OwnerView M
  o = owner_of v

  of : OwnerFits w r.entries o
  of = ((r.views id v at).owner o is_owner).1

  -- TakeJob, by an owner that works at p with the turn, whose ring has a first job
  module _ (e : Entry M) (rest : List (Entry M)) (turn_is : o.turn ≡ Some p) (works : IsTrue (is_working o.state (get_or o.serving p serving.Away))) (ring_is : o.ring ≡ e ∷ rest) where
    near : p < w.places
    near = (of.turns.turn_held p turn_is).0

    abbrev start : Started
    start = start_under w.owner (w.serving p)

    pub waits : drop (length (w.jobs p)) (r.entries p) ≡ e ∷ rest
    waits = sym (of.turns.ring_is p turn_is) ∙ ring_is

    more : length (w.jobs p) < length (w.sent p)
    more = let a = ap length waits in let b = ap length (r.marks p) in omega (arith, length-drop (length (w.jobs p)) (r.entries p), length-map (r.entries p) (λ (x : Entry M). x.mark))

    may : Enabled w (event.TakeJob p)
    may = record {
      there = record { sender = tt; place = near };
      conditions = (((λ i. is_working (of.does.state_is i) (of.does.serving_is p near i)) ∙ works, (of.turns.turn_held p turn_is).1), more);
    }

    abbrev w' : WorldState
    w' = world_after w (event.TakeJob p)

    same_taken : (q : ℕ) → q ≢ p → taken_in w' q ≡ taken_in w q
    same_taken q ne = ap length (upd_else w.jobs p (w.jobs p ++ active_job start ∷ []) q ne)

    one_more : taken_in w' p ≡ taken_in w p + 1
    one_more = ap length (upd_here w.jobs p (w.jobs p ++ active_job start ∷ [])) ∙ length-append (w.jobs p) (active_job start ∷ [])

    apart_from : (q : ℕ) → w.turn q ≢ Some actor.Owner → taken_in w' q ≡ taken_in w q
    apart_from q ne = same_taken q (λ same. ne (ap w.turn same ∙ (of.turns.turn_held p turn_is).1))

    abbrev taking : Held M
    taking = record { mark = e.mark; meaning = e.meaning; started = start_under o.state (get_or o.serving p serving.Away); fate = None }

    first_is : first_held (start_under o.state (get_or o.serving p serving.Away)) o.ring ≡ taking ∷ []
    first_is = ap (first_held (start_under o.state (get_or o.serving p serving.Away))) ring_is

    abbrev o' : OwnerView M
    o' = owner_of (job_taken p v)

    here : listed o'.jobs p ≡ listed o.jobs p ++ taking ∷ []
    here = listed_here o.jobs p _ (let a = of.jobs.jobs_wide in let b = near in omega arith) ∙ ap (λ hs. listed o.jobs p ++ hs) first_is

    pub long : length (listed o.jobs p) ≡ length (w.jobs p)
    long = let a = ap length (of.jobs.jobs_are p near) in omega (arith, length-map (listed o.jobs p) held_job)

    own_jobs : OwnerJobs w.places r.entries w'.jobs o'
    own_jobs = record {
      jobs_are = λ q inside. upd_case w.jobs p (w.jobs p ++ active_job start ∷ []) (λ k js. map held_job (listed o'.jobs k) ≡ js) q
          (λ same. ap (λ k. map held_job (listed o'.jobs k)) same ∙ (ap (map held_job) here ∙ (map-append held_job (listed o.jobs p) (taking ∷ [])
          ∙ (λ i. of.jobs.jobs_are p near i ++ active_job (start_under (sym of.does.state_is i) (sym (of.does.serving_is p near) i)) ∷ []))))
          (λ ne. ap (map held_job) (listed_else o.jobs p _ q ne) ∙ of.jobs.jobs_are q inside);
      marks_are = λ q inside. dite (ℕ_discrete q p)
          (λ same. subst (λ k. map held_entry (listed o'.jobs k) ≡ take (length (listed o'.jobs k)) (r.entries k)) (sym same)
          (ap (map held_entry) here ∙ (map-append held_entry (listed o.jobs p) (taking ∷ [])
          ∙ (ap (λ es. es ++ e ∷ []) (of.jobs.marks_are p near)
          ∙ (sym (take_next (r.entries p) (length (listed o.jobs p)) e rest (ap (λ k. drop k (r.entries p)) long ∙ waits))
          ∙ ap (λ k. take k (r.entries p)) (sym (ap length here ∙ length-append (listed o.jobs p) (taking ∷ []))))))))
          (λ ne. subst (λ hs. map held_entry hs ≡ take (length hs) (r.entries q)) (sym (listed_else o.jobs p _ q ne)) (of.jobs.marks_are q inside));
      jobs_wide = length-set o.jobs p _ ∙ of.jobs.jobs_wide;
    }

    own : OwnerFits w' r.entries o'
    own = record {
      does = record {
        state_is = of.does.state_is;
        serving_is = of.does.serving_is;
        serving_wide = of.does.serving_wide;
        got_is = of.does.got_is;
      };
      turns = record {
        turn_here = of.turns.turn_here;
        turn_held = of.turns.turn_held;
        ring_is = λ q is. let same : q ≡ p = some_same q p (sym is ∙ turn_is) in
            ap (drop 1) ring_is ∙ (sym (drop_next (r.entries p) (length (w.jobs p)) e rest waits) ∙ (ap (λ k. drop k (r.entries p)) (sym one_more) ∙ ap (λ k. drop (taken_in w' k) (r.entries k)) (sym same)));
      };
      jobs = own_jobs;
      clears = record { clear = of.clears.clear; noticed = of.clears.noticed };
    } where
      some_same : (x y : ℕ) → Some x ≡ Some y → x ≡ y
      some_same x y same = cc

    -- what was taken and settled stays so
    facts : (f : Fact M) → IsSo w.places w.refs r.entries w.jobs f → IsSo w.places w.refs r.entries w'.jobs f
    facts fact.NoReferences so = so
    facts (fact.Reached q count) so = so
    facts (fact.Settled q k mark meant f) so = upd_case w.jobs p (w.jobs p ++ active_job start ∷ []) (λ i js. (q < w.places) × (get_elem? (r.entries q) k ≡ some (record { mark = mark; meaning = meant })) × (k < length js) × ((job_at js k).fate ≡ Some f)) q
        (λ same. let inner : k < length (w.jobs p) = let a = so.2 in let b = ap (λ i. length (w.jobs i)) same in omega arith in
        (so.0, so.1, omega (arith, length-append (w.jobs p) (active_job start ∷ [])), ap (λ (j : Job). j.fate) (Rattle.std.proofs.Math.ListN.get_or-append (w.jobs p) (active_job start ∷ []) (active_job started.Direct) k inner) ∙ (ap (λ i. (job_at (w.jobs i) k).fate) (sym same) ∙ so.3)))
        (λ ne. so)

    pub takes_job : IsEvent meaning suits senders places s r (event.TakeJob p) (stepped s (taken_at p) ((slice_index s.words (taken_at p) + 1) % 2 ^ 64) id held (job_taken p v) keeps)
    takes_job = (
      may,
      (
        record {
          world = w';
          entries = r.entries;
          seat = r.seat;
          chief = r.chief;
          sized = record { places_are = r.sized.places_are; senders_are = r.sized.senders_are; some_place = r.sized.some_place; few_places = r.sized.few_places; few_senders = r.sized.few_senders; few_marks = r.sized.few_marks };
          sound = event_keeps (event.TakeJob p) w r.sound may;
          formed = worlds_are_well_formed.kept w (event.TakeJob p) r.formed may;
          marks = r.marks;
          suited = r.suited;
          words = set_taken places w.refs w.turn w.sent (taken_in w) w.note w.life w.mail s.words r.sized.few_places r.words p _ (taken_in w') counted same_taken inside;
          mail_noted = r.mail_noted;
          slots = slots_taken places w.turn (taken_in w) (taken_in w') r.entries meaning suits senders s.homes (λ q _ free. apart_from q (λ e. cc)) r.slots;
          views = owner_views w w' r.entries r.entries r.seat r.chief s.views r.views id v (job_taken p v) at facts [] (sym (append-nil v.seen)) (λ k f a. absurd (some-ne-none f (sym a))) o o' is_owner refl refl
              (λ j pass f. record { near = f.near; sits = f.sits; does = f.does; owns = f.owns; turns = pass_taken w.places w.turn (taken_in w) (taken_in w') r.entries pass (λ q inside has. apart_from q (λ e. let h = r.sound.turns.held pass.number q f.near inside (subst (λ ph. IsTrue (has_turn_at q ph)) (sym f.does.phase_is) has) in cc)) f.turns })
              own;
          tally = tally_set senders places w.life s.views r.tally id (job_taken p v) (λ k q a. r.tally.each id v at k q a);
          there = there_set senders r.seat r.chief s.views r.there id v (job_taken p v) at (keeps_same v (job_taken p v) refl o' refl);
        },
        refl,
      ),
    ) where
      inside : p < places
      inside = let a = r.sized.places_are in let b = near in omega arith

      counted : (slice_index s.words (taken_at p) + 1) % 2 ^ 64 ≡ taken_in w' p
      counted = let a = r.words.taken_is p inside in let b = few_put w p r.formed near (let c = r.sized.senders_are in let d = r.sized.few_senders in omega arith) (r.sized.few_marks p) in let c = more in let d = one_more in
          mod-eq_of_lt (omega arith) ∙ omega arith
