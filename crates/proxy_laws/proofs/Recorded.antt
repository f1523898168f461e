-- The record of a sound world whose jobs are settled.
use Rattle.std.proofs.Common.{◌≡◌, ◌≢◌, inl, inr, ℕ, suc, ◌<◌, Bool, ◌||◌, Option, Some, None, List, [], ◌∷◌, length, map, get_or, refl, arith, ap, sym, subst, ◌∙◌}
use Rattle.std.specs.Prelude.{IsTrue, All}
use Rattle.std.specs.List.{list_any}
use Rattle.std.proofs.Math.ListN.{get_or-map}
use Rattle.std.proofs.lemmas.Bool.{cases_lt, or_left}
use Rattle.std.proofs.lemmas.List.{length-map, get_or_past}
use Rattle.proxy_laws.specs.declared.records.FateMark.{FateMark}
use Rattle.proxy_laws.specs.declared.records.FateMark.TheVariants as fate
use Rattle.proxy_laws.specs.declared.records.Job.{Job}
use Rattle.proxy_laws.specs.declared.records.JobRecord.{JobRecord}
use Rattle.proxy_laws.specs.declared.records.Mark.{Mark}
use Rattle.proxy_laws.specs.declared.records.PostRecord.{PostRecord}
use Rattle.proxy_laws.specs.Fates.{AreRecordsOf, IsLawfulPlace, IsRecordOf, job_of, jobs_of}
use Rattle.proxy_laws.specs.Lists.{job_at}
use Rattle.proxy_laws.specs.Phases.{is_under}
use Rattle.proxy_laws.specs.Promises.{RecordsAreLawful}
use Rattle.proxy_laws.specs.Sound.{Sound, IsLawfulJob, uses_notice}
use Rattle.proxy_laws.specs.Starts.{is_notice, AreInOrder}
use Rattle.proxy_laws.specs.Worlds.{WorldState}

-- settled jobs and as many marks have their records
records_there : (marks : List Mark) (jobs : List Job) → length marks ≡ length jobs → ((n : ℕ) → n < length jobs → (job_at jobs n).fate ≢ None) → (records : List JobRecord) × AreRecordsOf marks jobs records
records_there [] [] same settled = ([], record { marks_are = refl; jobs_are = refl })
records_there [] (job ∷ jobs) same settled = absurd (omega arith)
records_there (mark ∷ marks) [] same settled = absurd (omega arith)
records_there (mark ∷ marks) (job ∷ jobs) same settled =
    let rest = records_there marks jobs (omega arith) (λ n near. settled (suc n) (omega arith)) in with_fate job.fate refl rest.0 rest.1 where
      with_fate : (f : Option FateMark) → job.fate ≡ f → (records : List JobRecord) → AreRecordsOf marks jobs records → (all : List JobRecord) × AreRecordsOf (mark ∷ marks) (job ∷ jobs) all
      with_fate None is records are = absurd (settled 0 (omega arith) is)
      with_fate (Some f) is records are = (
        record { mark = mark; started = job.started; fate = f } ∷ records,
        record {
          marks_are = ap (λ (ms : List Mark). mark ∷ ms) are.marks_are;
          jobs_are = λ i. record { started = job.started; fate = sym is i } ∷ are.jobs_are i;
        },
      )

-- the start of a record is that of its job
any_notice : (k : ℕ) (records : List JobRecord) → list_any (λ job. is_notice k job.started) (map job_of records) ≡ list_any (λ job. is_notice k job.started) records
any_notice k [] = refl
any_notice k (job ∷ records) = ap (λ (b : Bool). is_notice k job.started || b) (any_notice k records)

-- a settled job that is not finished was cancelled
cancelled_of : (f : FateMark) → Some f ≢ Some fate.Finished → f ≡ fate.Cancelled
cancelled_of fate.Finished ne = absurd (ne refl)
cancelled_of fate.Cancelled ne = refl

lawful_place : (w : WorldState) (p : ℕ) (records : List JobRecord) → Sound w → p < w.places → AreRecordsOf (w.sent p) (w.jobs p) records → IsLawfulPlace records
lawful_place w p records o place are = record {
  numbered = rw are.marks_are (o.turns.numbered p place);
  in_order = λ i j d lt near. rw (get_or-map job_of records i d, get_or-map job_of records j d) at (in_order i j (job_of d) lt (omega (arith, length-map records job_of)));
  cancelled = λ n d near is. cancelled_of (get_or records n d).fate ((rw (get_or-map job_of records n d) at (each n (job_of d) (omega (arith, length-map records job_of)))).unfinished is);
} where
  in_order : AreInOrder (λ job. job.started) (map job_of records)
  in_order = subst (λ (js : List Job). AreInOrder (λ job. job.started) js) (sym are.jobs_are) (o.jobs.in_order p place)

  each : All (IsLawfulJob w.owner w.got (w.serving p)) (map job_of records)
  each = subst (λ (js : List Job). All (IsLawfulJob w.owner w.got (w.serving p)) js) (sym are.jobs_are) (o.jobs.each p place)

-- a place whose record names a notice is there
near_of : (w : WorldState) (r : PostRecord) (p k : ℕ) → IsRecordOf w r → IsTrue (list_any (λ job. is_notice k job.started) (jobs_of r p)) → p < w.places
near_of w r p k is some = elim (cases_lt p (length r.places.items)) [
  | inl near ↦ let e = is.places in omega arith
  | inr past ↦ let none : jobs_of r p ≡ [] = get_or_past _ p [] (omega (arith, length-map r.places.items (λ place. place.jobs.items))) in let empty = ap (λ (js : List JobRecord). list_any (λ job. is_notice k job.started) js) none in absurd (cc)
]

-- and the owner started a job there under it
started_under : (w : WorldState) (r : PostRecord) (p k : ℕ) (is : IsRecordOf w r) → p < w.places → IsTrue (list_any (λ job. is_notice k job.started) (jobs_of r p)) → IsTrue (uses_notice k (w.jobs p) (w.serving p))
started_under w r p k is place some =
    or_left (list_any (λ job. is_notice k job.started) (w.jobs p)) (is_under k (w.serving p))
    (ap (λ (js : List Job). list_any (λ job. is_notice k job.started) js) (sym (is.each p place).jobs_are) ∙ (any_notice k (jobs_of r p) ∙ some))

pub records_are_lawful : RecordsAreLawful
records_are_lawful = record {
  there = λ w p o settled place. records_there (w.sent p) (w.jobs p) (let a = settled.none_waits p place in let b = o.jobs.taken p place in omega arith) (λ n near. settled.none_active p n place near);
  lawful = λ w r o is. record {
    places = λ p near. lawful_place w p (jobs_of r p) o (let e = is.places in omega arith) (is.each p (let e = is.places in omega arith));
    one_place = λ p q k of_p of_q. let at_p = near_of w r p k is of_p in let at_q = near_of w r q k is of_q in o.jobs.one_place p q k at_p at_q (started_under w r p k is at_p of_p) (started_under w r q k is at_q of_q);
  };
}
