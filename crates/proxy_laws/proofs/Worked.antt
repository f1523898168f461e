-- The jobs taken at one place change: what stays of each part of the invariant.
use Rattle.std.proofs.Common.{ℕ, ◌≤◌, List, length, arith}
use Rattle.std.specs.Prelude.{IsTrue, All}
use Rattle.proxy_laws.specs.declared.records.Job.{Job}
use Rattle.proxy_laws.specs.Maps.{upd}
use Rattle.proxy_laws.specs.Sound.{Sound, IsLawfulJob, IsQuiet, uses_notice}
use Rattle.proxy_laws.specs.Starts.{AreInOrder}
use Rattle.proxy_laws.specs.Worlds.{WorldState}
use Rattle.proxy_laws.proofs.Maps.{upd_case}

-- what is to be shown of the place p, where the jobs taken there come to be these
pub record Works (w : WorldState) (p : ℕ) (jobs : List Job) : Type 0 where
  pub more : length (w.jobs p) ≤ length jobs
  pub taken : length jobs ≤ length (w.sent p)
  pub each : All (IsLawfulJob w.owner w.got (w.serving p)) jobs
  pub in_order : AreInOrder (λ job. job.started) jobs
  pub uses : (k : ℕ) → IsTrue (uses_notice k jobs (w.serving p)) → IsTrue (uses_notice k (w.jobs p) (w.serving p))

-- The jobs taken at p change, and are no fewer.
pub works : (w : WorldState) (p : ℕ) (jobs : List Job) → Works w p jobs → Sound w → Sound (record w { jobs = upd w.jobs p jobs })
works w p jobs here o = record {
  refs = o.refs;
  engaged = o.engaged;
  announced = λ q at waits. o.announced q at (let m = more q in omega arith);
  borne = λ q at. let b = o.borne q at in record {
    open_once = b.open_once;
    closed = λ c. record { waits = λ waits. (b.closed c).waits (let m = more q in omega arith); got = (b.closed c).got; not_received = (b.closed c).not_received };
  };
  served = o.served;
  closed = o.closed;
  jobs = record {
    taken = λ q at. upd_case w.jobs p jobs (λ r js. length js ≤ length (w.sent r)) q (λ same. rw same here.taken) (λ ne. o.jobs.taken q at);
    each = λ q at. upd_case w.jobs p jobs (λ r js. All (IsLawfulJob w.owner w.got (w.serving r)) js) q (λ same. rw same here.each) (λ ne. o.jobs.each q at);
    in_order = λ q at. upd_case w.jobs p jobs (λ r js. AreInOrder (λ job. job.started) js) q (λ same. here.in_order) (λ ne. o.jobs.in_order q at);
    one_place = λ q r k at_q at_r of_q of_r. o.jobs.one_place q r k at_q at_r (uses q k of_q) (uses r k of_r);
    phase_got = o.jobs.phase_got;
  };
  lives = record {
    used = o.lives.used;
    looked = o.lives.looked;
    free = λ q at dead. quiet q (o.lives.free q at dead);
    saw_none = λ s q near at saw. quiet q (o.lives.saw_none s q near at saw);
    one_user = o.lives.one_user;
  };
  mail = o.mail;
  turns = o.turns;
  notices = o.notices;
} where
  more : (q : ℕ) → length (w.jobs q) ≤ length (upd w.jobs p jobs q)
  more q = upd_case w.jobs p jobs (λ r js. length (w.jobs r) ≤ length js) q (λ same. rw same here.more) (λ ne. omega arith)

  uses : (q k : ℕ) → IsTrue (uses_notice k (upd w.jobs p jobs q) (w.serving q)) → IsTrue (uses_notice k (w.jobs q) (w.serving q))
  uses q k = upd_case w.jobs p jobs (λ r js. IsTrue (uses_notice k js (w.serving r)) → IsTrue (uses_notice k (w.jobs r) (w.serving r))) q (λ same. rw same (here.uses k)) (λ ne is. is)

  quiet : (q : ℕ) → IsQuiet w.owner (w.sent q) (w.jobs q) (w.note q) → IsQuiet w.owner (w.sent q) (upd w.jobs p jobs q) (w.note q)
  quiet q was = let m = more q in let none = was.none_waits in record { none_waits = omega arith; none_noted = was.none_noted }
