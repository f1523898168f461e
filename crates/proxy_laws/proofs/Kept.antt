-- What a run leaves of the marks and the jobs of a place.
use Rattle.std.proofs.Common.{◌≡◌, ◌≢◌, ◌⊎◌, inl, inr, ℕ, ◌<◌, ◌≤◌, Bool, true, false, cond, Option, Some, None, List, [], ◌∷◌, ◌++◌, length, length-append, get_or, refl, arith, ap, sym, subst, ◌∙◌}
use Rattle.std.specs.Prelude.{nat_lt}
use Rattle.std.proofs.Math.ListN.{get_or-append, length-set}
use Rattle.std.proofs.lemmas.Bool.{cases_eq, cases_lt, lt-ltb, le-ltb}
use Rattle.std.proofs.lemmas.List.{get_or-set_other}
use Rattle.proxy_laws.specs.declared.actors.Actor.TheVariants as actor
use Rattle.proxy_laws.specs.declared.events.Event.{Event}
use Rattle.proxy_laws.specs.declared.events.Event.TheVariants as event
use Rattle.proxy_laws.specs.declared.records.FateMark.{FateMark}
use Rattle.proxy_laws.specs.declared.records.FateMark.TheVariants as fate
use Rattle.proxy_laws.specs.declared.records.Job.{Job}
use Rattle.proxy_laws.specs.declared.records.Mark.{Mark}
use Rattle.proxy_laws.specs.declared.records.Started.TheVariants as started
use Rattle.proxy_laws.specs.Events.{Enabled, world_after}
use Rattle.proxy_laws.specs.Fates.{Fate, Waiting, MayBecome, fate_of, taken_fate}
use Rattle.proxy_laws.specs.Lists.{active_job, job_at, next_mark, start_under, with_fate}
use Rattle.proxy_laws.specs.Maps.{upd}
use Rattle.proxy_laws.specs.Promises.{JobsAreKept}
use Rattle.proxy_laws.specs.Runs.{Leads}
use Rattle.proxy_laws.specs.Worlds.{WorldState, put, taken}
use Rattle.proxy_laws.proofs.Closing.{started_kept}
use Rattle.proxy_laws.proofs.Maps.{upd_case}

-- the marks of a place grow at their end
pub record MarksGrow (old new : List Mark) : Type 0 where
  pub longer : length old ≤ length new
  pub same : (n : ℕ) (d : Mark) → n < length old → get_or new n d ≡ get_or old n d

-- so do its jobs, and those that are not settled may be
pub record JobsGrow (old new : List Job) : Type 0 where
  pub longer : length old ≤ length new
  pub start : (n : ℕ) → n < length old → (job_at new n).started ≡ (job_at old n).started
  pub settled : (n : ℕ) (f : FateMark) → n < length old → (job_at old n).fate ≡ Some f → (job_at new n).fate ≡ Some f

pub record PlaceGrows (marks_old marks_new : List Mark) (jobs_old jobs_new : List Job) : Type 0 where
  pub marks : MarksGrow marks_old marks_new
  pub jobs : JobsGrow jobs_old jobs_new

abbrev pub GrowsIn : WorldState → WorldState → ℕ → Type 0
GrowsIn old new p = PlaceGrows (old.sent p) (new.sent p) (old.jobs p) (new.jobs p)

marks_same : (marks : List Mark) → MarksGrow marks marks
marks_same marks = record { longer = omega arith; same = λ n d near. refl }

jobs_same : (jobs : List Job) → JobsGrow jobs jobs
jobs_same jobs = record { longer = omega arith; start = λ n near. refl; settled = λ n f near is. is }

same : (marks : List Mark) (jobs : List Job) → PlaceGrows marks marks jobs jobs
same marks jobs = record { marks = marks_same marks; jobs = jobs_same jobs }

grows_on : (a b c : WorldState) (p : ℕ) → GrowsIn a b p → GrowsIn b c p → GrowsIn a c p
grows_on a b c p first second = record {
  marks = record {
    longer = let x = first.marks.longer in let y = second.marks.longer in omega arith;
    same = λ n d near. second.marks.same n d (let x = first.marks.longer in omega arith) ∙ first.marks.same n d near;
  };
  jobs = record {
    longer = let x = first.jobs.longer in let y = second.jobs.longer in omega arith;
    start = λ n near. second.jobs.start n (let x = first.jobs.longer in omega arith) ∙ first.jobs.start n near;
    settled = λ n f near is. second.jobs.settled n f (let x = first.jobs.longer in omega arith) (first.jobs.settled n f near is);
  };
}

marks_push : (marks : List Mark) (mark : Mark) → MarksGrow marks (marks ++ mark ∷ [])
marks_push marks mark = record { longer = omega (arith, length-append marks (mark ∷ [])); same = λ n d near. get_or-append marks (mark ∷ []) d n near }

jobs_push : (jobs : List Job) (job : Job) → JobsGrow jobs (jobs ++ job ∷ [])
jobs_push jobs job = record {
  longer = omega (arith, length-append jobs (job ∷ []));
  start = λ n near. ap (λ (j : Job). j.started) (get_or-append jobs (job ∷ []) (active_job started.Direct) n near);
  settled = λ n f near is. ap (λ (j : Job). j.fate) (get_or-append jobs (job ∷ []) (active_job started.Direct) n near) ∙ is;
}

jobs_settle : (jobs : List Job) (m : ℕ) (f : FateMark) → m < length jobs → (job_at jobs m).fate ≡ None → JobsGrow jobs (with_fate jobs m f)
jobs_settle jobs m f there active = record {
  longer = omega (arith, length-set jobs m (record { started = (job_at jobs m).started; fate = Some f }));
  start = λ n near. started_kept jobs m f n (active_job started.Direct) there;
  settled = λ n g near is. elim (cases_eq n m) [
    | inl same ↦ let none = ap (λ k. (job_at jobs k).fate) same in absurd (cc)
    | inr ne ↦ ap (λ (j : Job). j.fate) (get_or-set_other jobs m n (record { started = (job_at jobs m).started; fate = Some f }) (active_job started.Direct) ne) ∙ is
  ];
}

jobs_set : (w : WorldState) (p : ℕ) (jobs : List Job) → JobsGrow (w.jobs p) jobs → (q : ℕ) → PlaceGrows (w.sent q) (w.sent q) (w.jobs q) (upd w.jobs p jobs q)
jobs_set w p jobs grows q = record {
  marks = marks_same (w.sent q);
  jobs = upd_case w.jobs p jobs (λ r js. JobsGrow (w.jobs r) js) q (λ e. rw e grows) (λ ne. jobs_same (w.jobs q));
}

pub event_grows : (w : WorldState) (e : Event) (q : ℕ) → Enabled w e → GrowsIn w (world_after w e) q
event_grows w (event.Put s p tag) q e = record {
  marks = upd_case w.sent p (w.sent p ++ next_mark (w.sent p) s tag ∷ []) (λ r ms. MarksGrow (w.sent r) ms) q (λ is. rw is (marks_push (w.sent p) (next_mark (w.sent p) s tag))) (λ ne. marks_same (w.sent q));
  jobs = jobs_same (w.jobs q);
}
event_grows w (event.TakeJob p) q e = jobs_set w p _ (jobs_push (w.jobs p) (active_job (start_under w.owner (w.serving p)))) q
event_grows w (event.SettleFinished p n) q e = jobs_set w p _ (jobs_settle (w.jobs p) n fate.Finished e.conditions.0.0 e.conditions.0.1) q
event_grows w (event.SettleCancelled p n) q e = jobs_set w p _ (jobs_settle (w.jobs p) n fate.Cancelled e.conditions.0.0 e.conditions.0.1) q
event_grows w (event.TakePlace (actor.Sender s) p) q e = same (w.sent q) (w.jobs q)
event_grows w (event.TakePlace actor.Owner p) q e = same (w.sent q) (w.jobs q)
event_grows w (event.GivePlace (actor.Sender s) p) q e = same (w.sent q) (w.jobs q)
event_grows w (event.GivePlace actor.Owner p) q e = same (w.sent q) (w.jobs q)
event_grows w _ q e = same (w.sent q) (w.jobs q)

pub run_grows : (w : WorldState) (events : List Event) (end : WorldState) (q : ℕ) → Leads w events end → GrowsIn w end q
run_grows w [] end q led = subst (λ (x : WorldState). GrowsIn w x q) (sym led) (same (w.sent q) (w.jobs q))
run_grows w (e ∷ events) end q led = grows_on w (world_after w e) end q (event_grows w e q led.0) (run_grows (world_after w e) events end q led.1)

-- the fate of a job that was taken
taken_may_become : (old new : Option FateMark) → ((f : FateMark) → old ≡ Some f → new ≡ Some f) → MayBecome (Some (taken_fate old)) (Some (taken_fate new))
taken_may_become None None kept = tt
taken_may_become None (Some g) kept = tt
taken_may_become (Some f) new kept = ap (λ x. Some (taken_fate x)) (kept f refl)

pub may_become : (old new : WorldState) (p n : ℕ) → GrowsIn old new p → MayBecome (fate_of old p n) (fate_of new p n)
may_become old new p n grows = elim (cases_lt n (taken old p)) [
  | inl was_taken ↦ let now : n < taken new p = (let x = grows.jobs.longer in omega arith) in
      rw (lt-ltb n (taken old p) was_taken, lt-ltb n (taken new p) now) (taken_may_become _ _ (λ f is. grows.jobs.settled n f was_taken is))
  | inr not_taken ↦ rw (le-ltb n (taken old p) not_taken) (by_put (cases_lt n (put old p)))
] where
  by_new : (b : Bool) → (f : Fate) → MayBecome (Some Waiting) (cond b (Some f) (Some Waiting))
  by_new true f = tt
  by_new false f = tt

  by_put : (n < put old p) ⊎ (put old p ≤ n) → MayBecome (cond (nat_lt n (put old p)) (Some Waiting) None) (fate_of new p n)
  by_put (inl was_put) = let now : n < put new p = (let x = grows.marks.longer in omega arith) in
      rw (lt-ltb n (put old p) was_put, lt-ltb n (put new p) now) (by_new (nat_lt n (taken new p)) (taken_fate (job_at (new.jobs p) n).fate))
  by_put (inr not_put) = rw (le-ltb n (put old p) not_put) tt

-- a job that was put has a fate
put_has_fate : (w : WorldState) (p n : ℕ) → n < put w p → fate_of w p n ≢ None
put_has_fate w p n near = elim (cases_lt n (taken w p)) [
  | inl was_taken ↦ rw (lt-ltb n (taken w p) was_taken) (λ is. cc)
  | inr not_taken ↦ rw (le-ltb n (taken w p) not_taken, lt-ltb n (put w p) near) (λ is. cc)
]

pub jobs_are_kept : JobsAreKept
jobs_are_kept w events end p n led = let grows = run_grows w events end p led in record {
  has_fate = put_has_fate w p n;
  mark = λ d near. ((let x = grows.marks.longer in omega arith), grows.marks.same n d near);
  start = λ near. ((let x = grows.jobs.longer in omega arith), grows.jobs.start n near);
  fate = may_become w end p n grows;
}
