-- Deeds are done one after another.
use Rattle.std.proofs.Common.{◌≡◌, ℕ, zero, suc, ◌+◌, ◌<◌, Some, None, List, [], ◌∷◌, ◌++◌, length, set, refl, sym, ap, ◌∙◌, subst, append_assoc, length-append}
use Rattle.std.specs.Prelude.{slice_get}
use Rattle.std.proofs.lemmas.List.{append-nil, get_or-set_same}
use mathlib.Core.Option.{some}
use lib.ListN.{get_elem?}
use Rattle.proxy_laws.specs.declared.records.FateMark.{FateMark}
use Rattle.proxy_laws.specs.declared.records.FateMark.TheVariants as fate
use Rattle.proxy_laws.specs.declared.records.Mark.{Mark}
use Rattle.proxy_laws.specs.declared.records.Started.{Started}
use Rattle.post_core.specs.declared.views.Fact.TheVariants as fact
use Rattle.post_core.specs.declared.views.Held.{Held}
use Rattle.post_core.specs.declared.views.View.{View}
use Rattle.post_core.specs.Kept.{listed}
use Rattle.post_core.specs.ServingSteps.{job_started}
use Rattle.post_core.specs.Views.{held_settled, job_settled, owner_of, settled_facts, settled_held}
use Rattle.post_core.proofs.OwnerEnds.{last_is, set_last}
use Rattle.mailbox.specs.declared.calls.Deed.{Deed}
use Rattle.mailbox.specs.declared.calls.Deed.TheVariants as deed
use Rattle.mailbox.specs.declared.calls.RunCall.{RunCall}
use Rattle.mailbox.specs.declared.calls.RunJob.{RunJob}
use Rattle.mailbox.specs.declared.runner.Ran.{Ran}
use Rattle.mailbox.specs.declared.runner.Ran.TheVariants as ran
use Rattle.mailbox.specs.Calls.{held_by, run_job}
use Rattle.mailbox.specs.Deeds.{AreRight, StartsAs, WasDone, calls_of, deed_calls, fate_given, held_after, held_after_all, job_added, jobs_after, jobs_after_all, kept_job}
use Rattle.mailbox.specs.Runs.{run_calls}
use Rattle.mailbox.specs.Turns.{KeepsWork, jobs_in, start_here, view_after_run}

set_again : {X : Type 0} (xs : List X) (i : ℕ) (a b : X) → set (set xs i a) i b ≡ set xs i b
set_again [] i a b = refl
set_again (x ∷ xs) zero a b = refl
set_again (x ∷ xs) (suc i) a b = ap (λ ys. x ∷ ys) (set_again xs i a b)

last_elem : {X : Type 0} (xs : List X) (x : X) → get_elem? (xs ++ x ∷ []) (length xs) ≡ some x
last_elem [] x = refl
last_elem (y ∷ xs) x = last_elem xs x

module _ {M T : Type 0} where
  pub calls_append : (ds es : List (Deed M T)) → calls_of (ds ++ es) ≡ calls_of ds ++ calls_of es
  calls_append [] es = refl
  calls_append (d ∷ ds) es = ap (λ cs. deed_calls d ++ cs) (calls_append ds es) ∙ sym (append_assoc (deed_calls d) (calls_of ds) (calls_of es))

  pub jobs_append : (ds es : List (Deed M T)) (jobs : List (List (Held M))) → jobs_after_all (ds ++ es) jobs ≡ jobs_after_all es (jobs_after_all ds jobs)
  jobs_append [] es jobs = refl
  jobs_append (d ∷ ds) es jobs = jobs_append ds es (jobs_after d jobs)

  pub held_append : (ds es : List (Deed M T)) (held : List (RunJob M)) → held_after_all (ds ++ es) held ≡ held_after_all es (held_after_all ds held)
  held_append [] es held = refl
  held_append (d ∷ ds) es held = held_append ds es (held_after d held)

  pub right_append : (kind : Deed M T → Type 0) (target : ℕ) (ds es : List (Deed M T)) (jobs : List (List (Held M))) → AreRight kind target jobs ds → AreRight kind target (jobs_after_all ds jobs) es → AreRight kind target jobs (ds ++ es)
  right_append kind target [] es jobs a b = b
  right_append kind target (d ∷ ds) es jobs a b = (a.0, a.1, right_append kind target ds es (jobs_after d jobs) a.2 b)

  pub right_as : (kind kind' : Deed M T → Type 0) → ((d : Deed M T) → kind d → kind' d) → (target : ℕ) (jobs : List (List (Held M))) (ds : List (Deed M T)) → AreRight kind target jobs ds → AreRight kind' target jobs ds
  right_as kind kind' to target jobs [] a = a
  right_as kind kind' to target jobs (d ∷ ds) a = (to d a.0, a.1, right_as kind kind' to target (jobs_after d jobs) ds a.2)

  starts_as : (P Q : Started → Type 0) → ((s : Started) → P s → Q s) → (d : Deed M T) → StartsAs P d → StartsAs Q d
  starts_as P Q to (deed.Finished j s t) p = to s p
  starts_as P Q to (deed.Held j s) p = to s p
  starts_as P Q to (deed.Cancelled j t) p = absurd p
  starts_as P Q to (deed.GivenUp j t) p = absurd p

module _ {M T R : Type 0} (did : R → List (RunCall M T) → R → Type 0) where
  pub done_none : (kind : Deed M T → Type 0) (target : ℕ) (r r' : R) (jobs jobs' : List (List (Held M))) (held held' : List (RunJob M)) → did r [] r' → jobs' ≡ jobs → held' ≡ held → WasDone did kind target 0 r r' jobs jobs' held held'
  done_none kind target r r' jobs jobs' held held' none j h = record { deeds = []; count = refl; called = none; right = tt; jobs_are = j; held_are = h }

  -- deeds of a kind are deeds of another
  pub done_as : (P Q : Started → Type 0) → ((s : Started) → P s → Q s) → (target n : ℕ) (r r' : R) (jobs jobs' : List (List (Held M))) (held held' : List (RunJob M)) → WasDone did (StartsAs P) target n r r' jobs jobs' held held' → WasDone did (StartsAs Q) target n r r' jobs jobs' held held'
  done_as P Q to target n r r' jobs jobs' held held' d = record { deeds = d.deeds; count = d.count; called = d.called; right = right_as (StartsAs P) (StartsAs Q) (starts_as P Q to) target jobs d.deeds d.right; jobs_are = d.jobs_are; held_are = d.held_are }

  module _ (on : (a b c : R) (xs ys : List (RunCall M T)) → did a xs b → did b ys c → did a (xs ++ ys) c) where
    -- after the deeds nothing was called
    pub done_same : (kind : Deed M T → Type 0) (target n : ℕ) (r r' r'' : R) (jobs jobs' jobs'' : List (List (Held M))) (held held' held'' : List (RunJob M)) → WasDone did kind target n r r' jobs jobs' held held' → did r' [] r'' → jobs'' ≡ jobs' → held'' ≡ held' → WasDone did kind target n r r'' jobs jobs'' held held''
    done_same kind target n r r' r'' jobs jobs' jobs'' held held' held'' a none j h = record {
      deeds = a.deeds;
      count = a.count;
      called = subst (λ (cs : List (RunCall M T)). did r cs r'') (append-nil (calls_of a.deeds)) (on r r' r'' (calls_of a.deeds) [] a.called none);
      right = a.right;
      jobs_are = j ∙ a.jobs_are;
      held_are = h ∙ a.held_are;
    }

    -- before the deeds nothing was called
    pub done_since : (kind : Deed M T → Type 0) (target n : ℕ) (r r' r'' : R) (jobs jobs' jobs'' : List (List (Held M))) (held held' held'' : List (RunJob M)) → did r [] r' → jobs' ≡ jobs → held' ≡ held → WasDone did kind target n r' r'' jobs' jobs'' held' held'' → WasDone did kind target n r r'' jobs jobs'' held held''
    done_since kind target n r r' r'' jobs jobs' jobs'' held held' held'' none j h a = record {
      deeds = a.deeds;
      count = a.count;
      called = on r r' r'' [] (calls_of a.deeds) none a.called;
      right = subst (λ (js : List (List (Held M))). AreRight kind target js a.deeds) j a.right;
      jobs_are = a.jobs_are ∙ ap (jobs_after_all a.deeds) j;
      held_are = a.held_are ∙ ap (held_after_all a.deeds) h;
    }

    pub done_more : (kind : Deed M T → Type 0) (target n m : ℕ) (r r' r'' : R) (jobs jobs' jobs'' : List (List (Held M))) (held held' held'' : List (RunJob M)) → WasDone did kind target n r r' jobs jobs' held held' → WasDone did kind target m r' r'' jobs' jobs'' held' held'' → WasDone did kind target (n + m) r r'' jobs jobs'' held held''
    done_more kind target n m r r' r'' jobs jobs' jobs'' held held' held'' a b = record {
      deeds = a.deeds ++ b.deeds;
      count = length-append a.deeds b.deeds ∙ (λ i. a.count i + b.count i);
      called = subst (λ (cs : List (RunCall M T)). did r cs r'') (sym (calls_append a.deeds b.deeds)) (on r r' r'' (calls_of a.deeds) (calls_of b.deeds) a.called b.called);
      right = right_append kind target a.deeds b.deeds jobs a.right (subst (λ (js : List (List (Held M))). AreRight kind target js b.deeds) a.jobs_are b.right);
      jobs_are = b.jobs_are ∙ (ap (jobs_after_all b.deeds) a.jobs_are ∙ sym (jobs_append a.deeds b.deeds jobs));
      held_are = b.held_are ∙ (ap (held_after_all b.deeds) a.held_are ∙ sym (held_append a.deeds b.deeds held));
    }

module _ {M : Type 0} where
  -- the job that was taken last is settled
  pub settled_last : (jobs : List (List (Held M))) (p n : ℕ) (h : Held M) (f : FateMark) → p < length jobs → n ≡ length (listed jobs p) → fate_given p n f (job_added p h jobs) ≡ job_added p (settled_held f h) jobs
  settled_last jobs p n h f inside n_is =
      let row = listed jobs p in
      let added = set jobs p (row ++ h ∷ []) in
      let start : listed added p ≡ row ++ h ∷ [] = get_or-set_same jobs p (row ++ h ∷ []) [] inside in
      let found : slice_get (listed added p) n ≡ Some h = ap (λ l. slice_get l n) start ∙ (ap (slice_get (row ++ h ∷ [])) n_is ∙ last_is row h) in
      let now : set (listed added p) n (settled_held f h) ≡ row ++ settled_held f h ∷ [] = ap (λ l. set l n (settled_held f h)) start ∙ (ap (λ k. set (row ++ h ∷ []) k (settled_held f h)) n_is ∙ set_last row h (settled_held f h)) in
      ap (λ x. set added p (held_settled (listed added p) n f x)) found ∙ (ap (λ l. set added p l) now ∙ set_again jobs p (row ++ h ∷ []) (row ++ settled_held f h ∷ []))

  -- whoever settles a job has seen its fate
  pub seen_settled : (v : View M) (p n : ℕ) (f : FateMark) (h : Held M) → slice_get (listed (jobs_in v) p) n ≡ Some h → (k : ℕ) × (get_elem? (job_settled p n f v).seen k ≡ some (fact.Settled p n h.mark h.meaning f))
  seen_settled v p n f h at = (length v.seen, ap (λ x. get_elem? (v.seen ++ settled_facts p n f x) (length v.seen)) at ∙ last_elem v.seen (fact.Settled p n h.mark h.meaning f))

  pub started_there : (jobs : List (List (Held M))) (p n : ℕ) (h : Held M) → p < length jobs → n ≡ length (listed jobs p) → slice_get (listed (job_added p h jobs) p) n ≡ Some h
  started_there jobs p n h inside n_is = let row = listed jobs p in ap (λ l. slice_get l n) (get_or-set_same jobs p (row ++ h ∷ []) [] inside) ∙ (ap (slice_get (row ++ h ∷ [])) n_is ∙ last_is row h)

module _ {M T : Type 0} where
  pub run_keeps : (p n : ℕ) (mark : Mark) (meaning : M) (v w : View M) (ran : Ran T) → w ≡ view_after_run p n ran (job_started p (record { mark = mark; meaning = meaning }) v) → KeepsWork v w
  run_keeps p n mark meaning v w (ran.Finished t) is = record { state = ap (λ u. (owner_of u).state) is; serving = ap (λ u. (owner_of u).serving) is; got = ap (λ u. (owner_of u).got) is }
  run_keeps p n mark meaning v w ran.Held is = record { state = ap (λ u. (owner_of u).state) is; serving = ap (λ u. (owner_of u).serving) is; got = ap (λ u. (owner_of u).got) is }

module _ {M T R : Type 0} (did : R → List (RunCall M T) → R → Type 0) where
  -- a job was taken and run
  pub run_done : (target p n : ℕ) (mark : Mark) (meaning : M) (v w : View M) (r r' : R) (held held' : List (RunJob M)) (ran : Ran T)
      → p < length (jobs_in v) → n ≡ length (listed (jobs_in v) p)
      → did r (run_calls (run_job target p n mark meaning) ran) r'
      → held' ≡ held ++ held_by (run_job target p n mark meaning) ran
      → w ≡ view_after_run p n ran (job_started p (record { mark = mark; meaning = meaning }) v)
      → WasDone did (StartsAs (λ s. s ≡ start_here p v)) target 1 r r' (jobs_in v) (jobs_in w) held held'
  run_done target p n mark meaning v w r r' held held' (ran.Finished t) inside n_is called held_is w_is = record {
    deeds = deed.Finished (run_job target p n mark meaning) (start_here p v) t ∷ [];
    count = refl;
    called = called;
    right = (refl, (refl, inside, n_is), tt);
    jobs_are = ap (λ u. jobs_in u) w_is ∙ settled_last (jobs_in v) p n (kept_job (run_job target p n mark meaning) (start_here p v) None) fate.Finished inside n_is;
    held_are = held_is ∙ append-nil held;
  }
  run_done target p n mark meaning v w r r' held held' ran.Held inside n_is called held_is w_is = record {
    deeds = deed.Held (run_job target p n mark meaning) (start_here p v) ∷ [];
    count = refl;
    called = called;
    right = (refl, (refl, inside, n_is), tt);
    jobs_are = ap (λ u. jobs_in u) w_is;
    held_are = held_is;
  }
