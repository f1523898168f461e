-- The events by which the owner settles jobs and closes its target keep a world sound.
use Rattle.std.proofs.Common.{◌≡◌, ◌≢◌, inl, inr, ℕ, ◌<◌, ◌≤◌, ◌==◌, Bool, true, false, cond, Some, List, length, get_or, refl, arith, ap, subst}
use Rattle.std.specs.Prelude.{not, IsTrue, ◌&&◌}
use Rattle.std.specs.List.{list_any}
use Rattle.std.proofs.Math.ListN.{length-set}
use Rattle.std.proofs.lemmas.Bool.{cases_eq, or_cases, or_left, or_right, eqb-true}
use Rattle.std.proofs.lemmas.List.{get_or_default, get_or-set_same, get_or-set_other}
use Rattle.proxy_laws.specs.declared.actors.Note.TheVariants as note
use Rattle.proxy_laws.specs.declared.actors.OwnerState.TheVariants as owner
use Rattle.proxy_laws.specs.declared.actors.Phase.{Phase}
use Rattle.proxy_laws.specs.declared.actors.Phase.TheVariants as phase
use Rattle.proxy_laws.specs.declared.actors.Serving.{Serving}
use Rattle.proxy_laws.specs.declared.actors.Serving.TheVariants as serving
use Rattle.proxy_laws.specs.declared.events.Event.TheVariants as event
use Rattle.proxy_laws.specs.declared.records.FateMark.{FateMark}
use Rattle.proxy_laws.specs.declared.records.FateMark.TheVariants as fate
use Rattle.proxy_laws.specs.declared.records.Job.{Job}
use Rattle.proxy_laws.specs.declared.records.Started.TheVariants as started
use Rattle.proxy_laws.specs.Laws.{Keeps, ClosingKeeps}
use Rattle.proxy_laws.specs.Lists.{active_job, job_at, with_fate}
use Rattle.proxy_laws.specs.Maps.{bit, upd, count_below}
use Rattle.proxy_laws.specs.Phases.{is_idle, is_got, is_executing, is_executing_notice, is_pending, is_received, is_under, is_open, is_messenger_at, owes_note_at}
use Rattle.proxy_laws.specs.Sound.{Sound, IsLawfulJob, IsQuiet, uses_notice}
use Rattle.proxy_laws.specs.Starts.{is_notice}
use Rattle.proxy_laws.specs.Worlds.{WorldState}
use Rattle.proxy_laws.proofs.Apart.{started_some}
use Rattle.proxy_laws.proofs.Maps.{upd_here, upd_else, bit_le, bit_and_false, fails, sum_le}
use Rattle.proxy_laws.proofs.Served.{Serves, serves}
use Rattle.proxy_laws.proofs.Worked.{Works, works}

-- settling a job leaves how each was started
pub started_kept : (jobs : List Job) (n : ℕ) (f : FateMark) (k : ℕ) (d : Job) → n < length jobs → (get_or (with_fate jobs n f) k d).started ≡ (get_or jobs k d).started
started_kept jobs n f k d near = elim (cases_eq k n) [
  | inl same ↦ rw (same, get_or-set_same jobs n (record { started = (job_at jobs n).started; fate = Some f }) d near) (ap (λ (job : Job). job.started) (get_or_default jobs n (active_job started.Direct) d near))
  | inr ne ↦ ap (λ (job : Job). job.started) (get_or-set_other jobs n k (record { started = (job_at jobs n).started; fate = Some f }) d ne)
]

-- a job of p that was taken is settled
settles : (w : WorldState) (p n : ℕ) (f : FateMark) → Sound w → p < w.places → n < length (w.jobs p) → ((job : Job) → IsLawfulJob w.owner w.got (w.serving p) job → IsLawfulJob w.owner w.got (w.serving p) (record { started = job.started; fate = Some f })) → Sound (record w { jobs = upd w.jobs p (with_fate (w.jobs p) n f) })
settles w p n f o place near lawful = works w p (with_fate (w.jobs p) n f) here o where
  wide : length (with_fate (w.jobs p) n f) ≡ length (w.jobs p)
  wide = length-set (w.jobs p) n (record { started = (job_at (w.jobs p) n).started; fate = Some f })

  kept : (k : ℕ) (d : Job) → (get_or (with_fate (w.jobs p) n f) k d).started ≡ (get_or (w.jobs p) k d).started
  kept k d = started_kept (w.jobs p) n f k d near

  uses : (k : ℕ) → IsTrue (uses_notice k (with_fate (w.jobs p) n f) (w.serving p)) → IsTrue (uses_notice k (w.jobs p) (w.serving p))
  uses k is = elim (or_cases (list_any (λ job. is_notice k job.started) (with_fate (w.jobs p) n f)) (is_under k (w.serving p)) is) [
    | inl any ↦ let some = (started_some k (with_fate (w.jobs p) n f)).0 any in
        or_left (list_any (λ job. is_notice k job.started) (w.jobs p)) (is_under k (w.serving p))
        ((started_some k (w.jobs p)).1 (some.0, (let at = some.1 in omega (arith, wide)), λ d. subst (λ x. IsTrue (is_notice k x)) (kept some.0 d) (some.2 d)))
    | inr under ↦ or_right (list_any (λ job. is_notice k job.started) (w.jobs p)) (is_under k (w.serving p)) under
  ]

  here : Works w p (with_fate (w.jobs p) n f)
  here = record {
    more = omega (arith, wide);
    taken = let t = o.jobs.taken p place in omega (arith, wide);
    each = λ k d at. elim (cases_eq k n) [
      | inl same ↦ rw (same, get_or-set_same (w.jobs p) n (record { started = (job_at (w.jobs p) n).started; fate = Some f }) d near) (lawful (job_at (w.jobs p) n) (o.jobs.each p place n (active_job started.Direct) near))
      | inr ne ↦ rw (get_or-set_other (w.jobs p) n k (record { started = (job_at (w.jobs p) n).started; fate = Some f }) d ne) (o.jobs.each p place k d (omega (arith, wide)))
    ];
    in_order = λ i j d lt at. rw (kept i d, kept j d) (o.jobs.in_order p place i j d lt (omega (arith, wide)));
    uses = uses;
  }

settle_finished_keeps : (p n : ℕ) → Keeps (event.SettleFinished p n)
settle_finished_keeps p n w o e = settles w p n fate.Finished o e.there.place e.conditions.0.0 (λ job was. record {
  cancelled = λ is. absurd (cc);
  closing = was.closing;
  unfinished = λ is finished. let closed = was.closing is in let is_open = e.conditions.1 in cc;
  in_phase = was.in_phase;
  was_got = was.was_got;
})

settle_cancelled_keeps : (p n : ℕ) → Keeps (event.SettleCancelled p n)
settle_cancelled_keeps p n w o e = settles w p n fate.Cancelled o e.there.place e.conditions.0.0 (λ job was. record {
  cancelled = λ is. e.conditions.1;
  closing = was.closing;
  unfinished = λ is finished. cc;
  in_phase = was.in_phase;
  was_got = was.was_got;
})

drop_own_keeps : Keeps event.DropOwn
drop_own_keeps w o e = record {
  refs = let one = ap (λ s. bit (is_open s)) e.conditions in let count = o.refs in omega arith;
  engaged = o.engaged;
  announced = o.announced;
  borne = λ q at. record { open_once = λ ne. (o.borne q at).open_once not_closed; closed = λ c. absurd (cc) };
  served = λ q at. record { received = (o.served q at).received; none = λ ne. (o.served q at).none not_closed };
  closed = λ c. absurd (cc);
  jobs = record {
    taken = o.jobs.taken;
    each = λ q at k d near. let was = o.jobs.each q at k d near in record {
      cancelled = λ is. absurd (not_closed (was.cancelled is));
      closing = λ is. absurd (not_closed (was.closing is));
      unfinished = was.unfinished;
      in_phase = was.in_phase;
      was_got = was.was_got;
    };
    in_order = o.jobs.in_order;
    one_place = o.jobs.one_place;
    phase_got = o.jobs.phase_got;
  };
  lives = record {
    used = o.lives.used;
    looked = o.lives.looked;
    free = λ q at dead. quiet q (o.lives.free q at dead);
    saw_none = λ s q near at saw. quiet q (o.lives.saw_none s q near at saw);
    one_user = o.lives.one_user;
  };
  mail = o.mail;
  turns = o.turns;
  notices = o.notices;
} where
  not_closed : w.owner ≢ owner.Closed
  not_closed c = let is = e.conditions in cc

  quiet : (q : ℕ) → IsQuiet w.owner (w.sent q) (w.jobs q) (w.note q) → IsQuiet owner.Closing (w.sent q) (w.jobs q) (w.note q)
  quiet q was = record { none_waits = was.none_waits; none_noted = λ ne. was.none_noted not_closed }

owing_is_busy : (p : ℕ) (ph : Phase) → bit (owes_note_at p ph) ≤ bit (not (is_idle ph))
owing_is_busy p phase.Idle = omega arith
owing_is_busy p phase.Referenced = omega arith
owing_is_busy p (phase.Holding q) = omega arith
owing_is_busy p (phase.Put q) = bit_le (q == p)
owing_is_busy p (phase.Owing q) = bit_le (q == p)
owing_is_busy p (phase.Messenger q) = omega arith

messenger_is_busy : (p : ℕ) (ph : Phase) → bit (is_messenger_at p ph) ≤ bit (not (is_idle ph))
messenger_is_busy p phase.Idle = omega arith
messenger_is_busy p phase.Referenced = omega arith
messenger_is_busy p (phase.Holding q) = omega arith
messenger_is_busy p (phase.Put q) = omega arith
messenger_is_busy p (phase.Owing q) = omega arith
messenger_is_busy p (phase.Messenger q) = bit_le (q == p)

executing_notice : (b : Bool) (at_place : Serving) → bit (b && is_executing_notice at_place) ≤ bit (is_executing at_place)
executing_notice b serving.Away = let none = bit_and_false b in omega arith
executing_notice b (serving.Got k) = let none = bit_and_false b in omega arith
executing_notice b (serving.Executing k) = bit_le (b && true)
executing_notice b serving.Direct = let none = bit_and_false b in omega arith
executing_notice b serving.SeenEmpty = let none = bit_and_false b in omega arith

-- Without references nobody announces a job any more, so what bears the notices of an open target bears
-- those of a closed one.
closes : (w : WorldState) → Sound w → w.owner ≡ owner.Closing → w.refs ≡ 0 → Sound (record w { owner = owner.Closed })
closes w o is none_left = record {
  refs = let shut = ap (λ s. bit (is_open s)) is in let count = o.refs in omega arith;
  engaged = o.engaged;
  announced = o.announced;
  borne = λ q at. record {
    open_once = λ ne. absurd (ne refl);
    closed = λ c. record {
      waits = λ waits. let told = o.announced q at waits in let once = (o.borne q at).open_once not_closed in let owing = none_owes q in let bringing = none_brings q in let executes = executing_notice (is_received (w.note q)) (w.serving q) in omega arith;
      got = λ got. let once = (o.borne q at).open_once not_closed in let one : bit (is_got (w.serving q)) ≡ 1 = rw got refl in let most = bit_le (is_pending (w.note q)) in fails (w.mail q) (omega arith);
      not_received = λ some received. let once = (o.borne q at).open_once not_closed in let quiet = ap (λ n. bit (is_pending n)) received in omega arith;
    };
  };
  served = λ q at. record { received = (o.served q at).received; none = λ ne. absurd (ne refl) };
  closed = λ c. none_left;
  jobs = record {
    taken = o.jobs.taken;
    each = λ q at k d near. let was = o.jobs.each q at k d near in record { cancelled = λ x. refl; closing = λ x. refl; unfinished = was.unfinished; in_phase = was.in_phase; was_got = was.was_got };
    in_order = o.jobs.in_order;
    one_place = o.jobs.one_place;
    phase_got = o.jobs.phase_got;
  };
  lives = record {
    used = o.lives.used;
    looked = o.lives.looked;
    free = λ q at dead. record { none_waits = (o.lives.free q at dead).none_waits; none_noted = λ ne. absurd (ne refl) };
    saw_none = λ s q near at saw. record { none_waits = (o.lives.saw_none s q near at saw).none_waits; none_noted = λ ne. absurd (ne refl) };
    one_user = o.lives.one_user;
  };
  mail = o.mail;
  turns = o.turns;
  notices = o.notices;
} where
  not_closed : w.owner ≢ owner.Closed
  not_closed c = cc

  none_owes : (q : ℕ) → count_below w.senders (λ s. owes_note_at q (w.phase s)) ≡ 0
  none_owes q = let most = sum_le w.senders (λ s. bit (owes_note_at q (w.phase s))) (λ s. bit (not (is_idle (w.phase s)))) (λ s near. owing_is_busy q (w.phase s)) in let count = o.refs in omega arith

  none_brings : (q : ℕ) → count_below w.senders (λ s. is_messenger_at q (w.phase s)) ≡ 0
  none_brings q = let most = sum_le w.senders (λ s. bit (is_messenger_at q (w.phase s))) (λ s. bit (not (is_idle (w.phase s)))) (λ s near. messenger_is_busy q (w.phase s)) in let count = o.refs in omega arith

look_closed_keeps : Keeps event.LookClosed
look_closed_keeps w o e = by_count (w.refs == 0) refl where
  by_count : (b : Bool) → (w.refs == 0) ≡ b → Sound (record w { owner = cond b owner.Closed w.owner })
  by_count true is = closes w o e.conditions (eqb-true w.refs 0 is)
  by_count false is = o

reset_place_keeps : (p : ℕ) → Keeps (event.ResetPlace p)
reset_place_keeps p w o e = serves w p (upd w.note p note.None) serving.Away (λ q ne. upd_else w.note p note.None q ne) (rw (upd_here w.note p note.None) here) o where
  here : Serves w p note.None serving.Away
  here = record {
    announced = λ waits. let emptied = e.conditions.1.2 in absurd (omega arith);
    borne = record {
      open_once = λ ne. absurd (ne e.conditions.0);
      closed = λ c. record {
        waits = λ waits. let emptied = e.conditions.1.2 in absurd (omega arith);
        got = λ is. absurd (cc);
        not_received = λ some is. cc;
      };
    };
    served = record { received = λ is. absurd (cc); none = λ ne. absurd (ne e.conditions.0) };
    under = λ k is. absurd (cc);
    quiet = λ was. record { none_waits = was.none_waits; none_noted = λ ne. absurd (ne e.conditions.0) };
  }

pub closing_keeps : ClosingKeeps
closing_keeps = record {
  settle_finished = settle_finished_keeps;
  settle_cancelled = settle_cancelled_keeps;
  drop_own = drop_own_keeps;
  look_closed = look_closed_keeps;
  reset_place = reset_place_keeps;
  join = λ s w o e. o;
}
