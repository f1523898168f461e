-- What is cancelled while a target closes.
use Rattle.std.proofs.Common.{◌≡◌, ℕ, zero, suc, ◌<◌, inl, inr, IsTrue, true, Option, Some, None, List, [], ◌∷◌, ◌++◌, length, length-set, refl, arith, sym, ap, ◌∙◌, subst}
use Rattle.std.specs.Prelude.{slice_get}
use Rattle.std.proofs.lemmas.Bool.{cases_lt}
use Rattle.std.proofs.lemmas.List.{get_or_past}
use Rattle.std.proofs.lemmas.Option.{slice_get_within}
use Rattle.proxy_laws.specs.declared.actors.OwnerState.TheVariants as state
use Rattle.proxy_laws.specs.declared.actors.Serving.TheVariants as serving
use Rattle.proxy_laws.specs.declared.records.FateMark.{FateMark}
use Rattle.proxy_laws.specs.declared.records.FateMark.TheVariants as fate
use Rattle.proxy_laws.specs.declared.records.Mark.{Mark}
use Rattle.proxy_laws.specs.declared.records.Started.{Started}
use Rattle.proxy_laws.specs.declared.records.Started.TheVariants as started
use Rattle.proxy_laws.specs.Lists.{start_under}
use Rattle.proxy_laws.specs.Phases.{is_working}
use Rattle.post_core.specs.declared.views.Held.{Held}
use Rattle.post_core.specs.declared.views.View.{View}
use Rattle.post_core.specs.ClosingParts.{HasEmptied}
use Rattle.post_core.specs.ClosingViews.{AreRounds, left_cleared}
use Rattle.post_core.specs.Kept.{listed}
use Rattle.post_core.specs.MailSteps.{words_empty}
use Rattle.post_core.specs.ServingSteps.{job_started, serving_at}
use Rattle.post_core.specs.Steps.{IsActiveHere}
use Rattle.post_core.specs.Views.{held_settled, job_settled, owner_of}
use Rattle.mailbox.specs.declared.calls.Deed.{Deed}
use Rattle.mailbox.specs.declared.calls.Deed.TheVariants as deed
use Rattle.mailbox.specs.declared.calls.RunCall.{RunCall}
use Rattle.mailbox.specs.declared.calls.RunCall.TheVariants as call
use Rattle.mailbox.specs.declared.calls.RunJob.{RunJob}
use Rattle.mailbox.specs.declared.runner.HeldTail.{HeldTail}
use Rattle.mailbox.specs.Calls.{NextSuits, first_off, run_job}
use Rattle.mailbox.specs.Deeds.{AreRight, Cancels, GivesUp, IsActiveJob, StartsAs, WasDone, calls_of, fate_given, held_after_all, job_added, jobs_after, jobs_after_all, kept_job}
use Rattle.mailbox.specs.Holding.{HoldsActive}
use Rattle.mailbox.specs.Shut.{WasGivenUp, WasShut}
use Rattle.mailbox.specs.Turns.{jobs_in, start_here}
use Rattle.mailbox.proofs.DeedLemmas.{settled_last}
use Rattle.mailbox.proofs.HoldingLemmas.{added_held, added_holds}
use Rattle.mailbox.proofs.NoticeLemmas.{first_jobs, none_jobs}

module _ {M : Type 0} where
  cleared_jobs : (left : Option ℕ) (v : View M) → jobs_in (left_cleared left v) ≡ jobs_in v
  cleared_jobs None v = refl
  cleared_jobs (Some p) v = refl

  pub rounds_jobs : (n : ℕ) (left : Option ℕ) (v : View M) (after : Option ℕ) (u : View M) → AreRounds n left v after u → jobs_in u ≡ jobs_in v
  rounds_jobs zero left v after u r = ap (λ x. jobs_in x) r.1
  rounds_jobs (suc n) left v after u r = first_jobs r.2 (left_cleared r.0 r.1) u r.5 ∙ (cleared_jobs r.0 r.1 ∙ rounds_jobs n left v r.0 r.1 r.3)

  pub done_jobs : (left : Option ℕ) (v u : View M) → u ≡ words_empty 4 (left_cleared left v) → jobs_in u ≡ jobs_in v
  done_jobs left v u is = none_jobs (left_cleared left v) u is ∙ cleared_jobs left v

  -- a closed owner works at a place that there is
  pub works_inside : (v : View M) (p : ℕ) → IsTrue (is_working state.Closed (serving_at p v)) → p < length (owner_of v).serving
  works_inside v p works = elim (cases_lt p (length (owner_of v).serving)) [
    | inl there ↦ there
    | inr past ↦ absurd (let away : is_working state.Closed serving.Away ≡ true = subst (λ s. IsTrue (is_working state.Closed s)) (get_or_past (owner_of v).serving p serving.Away past) works in cc)
  ]

  -- a job that a closed owner took at the place where it works stands at a place that there is
  pub settled_inside : (before w : View M) (p n : ℕ) (mark : Mark) (meaning : M) → w ≡ job_settled p n fate.Cancelled (job_started p (record { mark = mark; meaning = meaning }) before) → {k : ℕ} → length (owner_of w).serving ≡ k → length (owner_of w).jobs ≡ k → IsTrue (is_working state.Closed (serving_at p w)) → p < length (jobs_in before)
  settled_inside before w p n mark meaning is {k} wide rows works =
      let inside = works_inside w p works in
      let added = job_added p (record { mark = mark; meaning = meaning; started = start_here p before; fate = None }) (jobs_in before) in
      let long : length (jobs_in w) ≡ length (jobs_in before) = ap (λ u. length (jobs_in u)) is ∙ (length-set added p (held_settled (listed added p) n fate.Cancelled (slice_get (listed added p) n)) ∙ length-set (jobs_in before) p (listed (jobs_in before) p ++ record { mark = mark; meaning = meaning; started = start_here p before; fate = None } ∷ [])) in
      omega (arith, inside, wide, rows, long)

  pub settled_empties : (v : View M) (p n : ℕ) (f : FateMark) → HasEmptied v → HasEmptied (job_settled p n f v)
  settled_empties v p n f h = record { closed = h.closed; away = h.away; clear = h.clear }

  pub active_here : (target : ℕ) (jobs : List (List (Held M))) (j : RunJob M) → IsActiveJob target jobs j → IsActiveHere (listed jobs j.place) j.nth
  active_here target jobs j a = (slice_get_within (listed jobs j.place) j.nth a.1.0 a.1.1, (a.1.0, a.1.1, a.1.4))

module _ {M T : Type 0} (suits : T → RunJob M → FateMark → Type 0) where
  pub next_some : (held : List (RunJob M)) (h : HeldTail T) → NextSuits suits held (Some h) → (j : RunJob M) × (js : List (RunJob M)) × (held ≡ j ∷ js) × (h.place ≡ j.place) × (h.nth ≡ j.nth) × suits h.tail j fate.Cancelled
  next_some [] h s = absurd s
  next_some (j ∷ js) h s = (j, js, refl, s.0, s.1, s.2)

  pub next_none : (held : List (RunJob M)) → NextSuits suits held None → held ≡ []
  next_none [] s = refl
  next_none (j ∷ js) s = absurd s

module _ {M T R : Type 0} (did : R → List (RunCall M T) → R → Type 0) where
  -- a job that waited was taken and cancelled
  pub cancel_done : (target p n : ℕ) (mark : Mark) (meaning : M) (v before w : View M) (r r' : R) (held held' : List (RunJob M)) (t : T)
      → p < length (jobs_in before) → n ≡ length (listed (jobs_in before) p) → (owner_of before).state ≡ state.Closed → jobs_in before ≡ jobs_in v
      → w ≡ job_settled p n fate.Cancelled (job_started p (record { mark = mark; meaning = meaning }) before)
      → did r (call.Cancel (run_job target p n mark meaning) t ∷ call.Tell t p n fate.Cancelled ∷ []) r' → held' ≡ held
      → WasDone did Cancels target 1 r r' (jobs_in v) (jobs_in w) held held'
  cancel_done target p n mark meaning v before w r r' held held' t inside n_is closed same w_is called held_is =
      let job = run_job target p n mark meaning in
      let start : start_here p before ≡ started.Closing = ap (λ s. start_under s (serving_at p before)) closed in
      record {
        deeds = deed.Cancelled job t ∷ [];
        count = refl;
        called = called;
        right = (tt, (refl, subst (λ (js : List (List (Held M))). p < length js) same inside, n_is ∙ ap (λ js. length (listed js p)) same), tt);
        jobs_are = ap (λ u. jobs_in u) w_is ∙ (settled_last (jobs_in before) p n (kept_job job (start_here p before) None) fate.Cancelled inside n_is ∙ (λ i. job_added p (kept_job job (start i) (Some fate.Cancelled)) (same i)));
        held_are = held_is;
      }

  -- the oldest held job was given up
  pub give_done : (target : ℕ) (j : RunJob M) (h : HeldTail T) (jobs jobs' : List (List (Held M))) (r r' : R) (held held' : List (RunJob M))
      → IsActiveJob target jobs j → h.place ≡ j.place → h.nth ≡ j.nth
      → jobs' ≡ fate_given h.place h.nth fate.Cancelled jobs
      → did r (call.NextHeld (Some h) ∷ call.Tell h.tail h.place h.nth fate.Cancelled ∷ []) r' → held' ≡ first_off held
      → WasDone did GivesUp target 1 r r' jobs jobs' held held'
  give_done target j h jobs jobs' r r' held held' active place nth jobs_is called held_is =
      let is : record { place = h.place; nth = h.nth; tail = h.tail } ≡ record { place = j.place; nth = j.nth; tail = h.tail } = λ i. record { place = place i; nth = nth i; tail = h.tail } in
      record {
        deeds = deed.GivenUp j h.tail ∷ [];
        count = refl;
        called = subst (λ (x : HeldTail T). did r (call.NextHeld (Some x) ∷ call.Tell h.tail x.place x.nth fate.Cancelled ∷ []) r') is called;
        right = (tt, active, tt);
        jobs_are = jobs_is ∙ (λ i. fate_given (place i) (nth i) fate.Cancelled jobs);
        held_are = held_is;
      }

module _ {M T : Type 0} where
  -- while jobs that waited are cancelled, those that are held stay the active ones
  pub cancels_hold : (target places : ℕ) (ds : List (Deed M T)) (jobs : List (List (Held M))) (held : List (RunJob M)) → AreRight Cancels target jobs ds → HoldsActive target places jobs held → HoldsActive target places (jobs_after_all ds jobs) (held_after_all ds held)
  cancels_hold target places [] jobs held right h = h
  cancels_hold target places (deed.Finished j s t ∷ ds) jobs held right h = absurd right.0
  cancels_hold target places (deed.Held j s ∷ ds) jobs held right h = absurd right.0
  cancels_hold target places (deed.GivenUp j t ∷ ds) jobs held right h = absurd right.0
  cancels_hold target places (deed.Cancelled j t ∷ ds) jobs held right h = cancels_hold target places ds (jobs_after (deed.Cancelled j t) jobs) held right.2 (added_holds jobs j.place (kept_job j started.Closing (Some fate.Cancelled)) target places fate.Cancelled refl held h)

module _ {M T : Type 0} where
  -- while an open owner runs jobs, those that are held stay the active ones
  pub runs_hold : (P : Started → Type 0) (target places : ℕ) (ds : List (Deed M T)) (jobs : List (List (Held M))) (held : List (RunJob M)) → AreRight (StartsAs P) target jobs ds → HoldsActive target places jobs held → HoldsActive target places (jobs_after_all ds jobs) (held_after_all ds held)
  runs_hold P target places [] jobs held right h = h
  runs_hold P target places (deed.Finished j s t ∷ ds) jobs held right h = runs_hold P target places ds (jobs_after (deed.Finished j s t) jobs) held right.2 (added_holds jobs j.place (kept_job j s (Some fate.Finished)) target places fate.Finished refl held h)
  runs_hold P target places (deed.Held j s ∷ ds) jobs held right h = runs_hold P target places ds (job_added j.place (kept_job j s None) jobs) (held ++ j ∷ []) right.2 (added_held jobs target places j s right.1 held h)
  runs_hold P target places (deed.Cancelled j t ∷ ds) jobs held right h = absurd right.0
  runs_hold P target places (deed.GivenUp j t ∷ ds) jobs held right h = absurd right.0

module _ {M T R : Type 0} (did : R → List (RunCall M T) → R → Type 0) where
  -- after jobs were run, the runner holds just the active jobs, where it did so before
  pub run_holds : (P : Started → Type 0) (target places n : ℕ) (r r' : R) (jobs jobs' : List (List (Held M))) (held held' : List (RunJob M)) → WasDone did (StartsAs P) target n r r' jobs jobs' held held' → HoldsActive target places jobs held → HoldsActive target places jobs' held'
  run_holds P target places n r r' jobs jobs' held held' a h = subst (λ (x : List (List (Held M)) × List (RunJob M)). HoldsActive target places x.0 x.1) (λ i. (sym a.jobs_are i, sym a.held_are i)) (runs_hold P target places a.deeds jobs held a.right h)

module _ {M T R : Type 0} (did : R → List (RunCall M T) → R → Type 0) (held : R → List (RunJob M)) (target : ℕ) (on : (a b c : R) (xs ys : List (RunCall M T)) → did a xs b → did b ys c → did a (xs ++ ys) c) where
  pub given_up : (n : ℕ) (r r' r'' : R) (jobs jobs' jobs'' : List (List (Held M))) → WasDone did GivesUp target n r r' jobs jobs' (held r) (held r') → did r' (call.NextHeld None ∷ []) r'' → jobs'' ≡ jobs' → held r'' ≡ [] → WasGivenUp did held target n r r'' jobs jobs''
  given_up n r r' r'' jobs jobs' jobs'' a none same empty = record { deeds = a.deeds; count = a.count; called = on r r' r'' (calls_of a.deeds) (call.NextHeld None ∷ []) a.called none; right = a.right; jobs_are = same ∙ a.jobs_are; none_held = empty }

  pub shut_done : (n m : ℕ) (r r' r'' : R) (jobs jobs0 jobs' jobs1 jobs'' : List (List (Held M))) → jobs0 ≡ jobs → WasDone did Cancels target n r r' jobs0 jobs' (held r) (held r') → jobs1 ≡ jobs' → WasGivenUp did held target m r' r'' jobs1 jobs'' → WasShut did held target n m r r'' jobs jobs''
  shut_done n m r r' r'' jobs jobs0 jobs' jobs1 jobs'' first a same b = record {
    cancelled = a.deeds;
    given_up = b.deeds;
    cancelled_count = a.count;
    given_count = b.count;
    called = on r r' r'' (calls_of a.deeds) (calls_of b.deeds ++ call.NextHeld None ∷ []) a.called b.called;
    cancelled_right = subst (λ js. AreRight Cancels target js a.deeds) first a.right;
    given_right = subst (λ js. AreRight GivesUp target js b.deeds) (same ∙ (a.jobs_are ∙ ap (jobs_after_all a.deeds) first)) b.right;
    jobs_are = b.jobs_are ∙ ap (jobs_after_all b.deeds) (same ∙ (a.jobs_are ∙ ap (jobs_after_all a.deeds) first));
    none_held = b.none_held;
  }
