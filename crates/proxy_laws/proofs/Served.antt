-- What the owner does at one place changes, and the note there: what stays of each part of the invariant.
use Rattle.std.proofs.Common.{◌≡◌, ◌≢◌, inl, inr, ℕ, List}
use Rattle.std.specs.Prelude.{IsTrue}
use Rattle.std.specs.List.{list_any}
use Rattle.std.proofs.lemmas.Bool.{or_cases, or_left, or_right}
use Rattle.proxy_laws.specs.declared.actors.Note.{Note}
use Rattle.proxy_laws.specs.declared.actors.OwnerState.{OwnerState}
use Rattle.proxy_laws.specs.declared.actors.Serving.{Serving}
use Rattle.proxy_laws.specs.declared.records.Job.{Job}
use Rattle.proxy_laws.specs.Maps.{upd}
use Rattle.proxy_laws.specs.Phases.{is_under}
use Rattle.proxy_laws.specs.Sound.{Sound, IsAnnounced, IsBorne, IsServed, IsLawfulJob, IsQuiet, uses_notice}
use Rattle.proxy_laws.specs.Starts.{is_notice}
use Rattle.proxy_laws.specs.Worlds.{WorldState}
use Rattle.proxy_laws.proofs.Maps.{upd_case}

-- a place that the owner is under no other notice at uses no other notice
pub uses_under : (k : ℕ) (jobs : List Job) (old new : Serving) → (IsTrue (is_under k new) → IsTrue (is_under k old)) → IsTrue (uses_notice k jobs new) → IsTrue (uses_notice k jobs old)
uses_under k jobs old new less is = elim (or_cases _ _ is) [
  | inl started ↦ or_left _ _ started
  | inr under ↦ or_right (list_any (λ job. is_notice k job.started) jobs) _ (less under)
]

-- a lawful job stays so where the owner is under no other notice
pub lawful_under : (state : OwnerState) (got : ℕ) (old new : Serving) (job : Job) → ((k : ℕ) → IsTrue (is_under k new) → IsTrue (is_under k old)) → IsLawfulJob state got old job → IsLawfulJob state got new job
lawful_under state got old new job less o = record {
  cancelled = o.cancelled;
  closing = o.closing;
  unfinished = o.unfinished;
  in_phase = λ k m is under. o.in_phase k m is (less m under);
  was_got = o.was_got;
}

-- what is to be shown of the place p, where the owner comes to do `at_place`, and the note there to be n
pub record Serves (w : WorldState) (p : ℕ) (n : Note) (at_place : Serving) : Type 0 where
  pub announced : IsAnnounced w.senders w.phase (w.sent p) (w.jobs p) n at_place p
  pub borne : IsBorne w.senders w.owner w.phase (w.sent p) (w.jobs p) (w.mail p) n at_place p
  pub served : IsServed w.owner n at_place
  pub under : (k : ℕ) → IsTrue (is_under k at_place) → IsTrue (is_under k (w.serving p))
  pub quiet : IsQuiet w.owner (w.sent p) (w.jobs p) (w.note p) → IsQuiet w.owner (w.sent p) (w.jobs p) n

-- The owner comes to do something else at p; the notes stay but for that of p.
pub serves : (w : WorldState) (p : ℕ) (notes : ℕ → Note) (at_place : Serving) → ((q : ℕ) → q ≢ p → notes q ≡ w.note q) → Serves w p (notes p) at_place → Sound w → Sound (record w { note = notes; serving = upd w.serving p at_place })
serves w p notes at_place kept here o = record {
  refs = o.refs;
  engaged = o.engaged;
  announced = λ q at. upd_case w.serving p at_place (λ k a. IsAnnounced w.senders w.phase (w.sent k) (w.jobs k) (notes k) a k) q (λ same. rw same here.announced) (λ ne. rw (kept q ne) (o.announced q at));
  borne = λ q at. upd_case w.serving p at_place (λ k a. IsBorne w.senders w.owner w.phase (w.sent k) (w.jobs k) (w.mail k) (notes k) a k) q (λ same. rw same here.borne) (λ ne. rw (kept q ne) (o.borne q at));
  served = λ q at. upd_case w.serving p at_place (λ k a. IsServed w.owner (notes k) a) q (λ same. rw same here.served) (λ ne. rw (kept q ne) (o.served q at));
  closed = o.closed;
  jobs = record {
    taken = o.jobs.taken;
    each = λ q at n d near. lawful_under w.owner w.got (w.serving q) (upd w.serving p at_place q) _ (less q) (o.jobs.each q at n d near);
    in_order = o.jobs.in_order;
    one_place = λ q r k at_q at_r of_q of_r. o.jobs.one_place q r k at_q at_r (uses_under k (w.jobs q) (w.serving q) (upd w.serving p at_place q) (less q k) of_q) (uses_under k (w.jobs r) (w.serving r) (upd w.serving p at_place r) (less r k) of_r);
    phase_got = λ q k at under. o.jobs.phase_got q k at (less q k under);
  };
  lives = record {
    used = o.lives.used;
    looked = o.lives.looked;
    free = λ q at dead. quiet q (o.lives.free q at dead);
    saw_none = λ s q near at saw. quiet q (o.lives.saw_none s q near at saw);
    one_user = o.lives.one_user;
  };
  mail = o.mail;
  turns = o.turns;
  notices = o.notices;
} where
  less : (q k : ℕ) → IsTrue (is_under k (upd w.serving p at_place q)) → IsTrue (is_under k (w.serving q))
  less q k = upd_case w.serving p at_place (λ r a. IsTrue (is_under k a) → IsTrue (is_under k (w.serving r))) q (λ same. rw same (here.under k)) (λ ne under. under)

  quiet : (q : ℕ) → IsQuiet w.owner (w.sent q) (w.jobs q) (w.note q) → IsQuiet w.owner (w.sent q) (w.jobs q) (notes q)
  quiet q = upd_case w.serving p at_place (λ r a. IsQuiet w.owner (w.sent r) (w.jobs r) (w.note r) → IsQuiet w.owner (w.sent r) (w.jobs r) (notes r)) q (λ same. rw same here.quiet) (λ ne was. rw (kept q ne) was)
