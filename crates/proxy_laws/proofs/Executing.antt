-- The events by which the owner serves its target keep a world sound.
use Rattle.std.proofs.Common.{◌≡◌, ◌≢◌, ◌⊎◌, inl, inr, ℕ, ◌+◌, ◌<◌, ◌≤◌, false, ◌||◌, [], ◌∷◌, ◌++◌, length, length-append, refl, arith, ap, sym, subst, ◌∙◌}
use Rattle.std.specs.Prelude.{IsTrue, ◌&&◌}
use Rattle.std.specs.List.{list_any}
use Rattle.std.proofs.lemmas.Bool.{or_cases, or_left, or_right, eqb-true, eq-eqb, ne_eqb}
use Rattle.std.proofs.lemmas.List.Elements.{All-push}
use Rattle.std.proofs.lemmas.List.Folds.{list_any-append}
use Rattle.std.proofs.lemmas.List.Quantifiers.{all_pairs_push}
use Rattle.proxy_laws.specs.declared.actors.Note.{Note}
use Rattle.proxy_laws.specs.declared.actors.Note.TheVariants as note
use Rattle.proxy_laws.specs.declared.actors.OwnerState.{OwnerState}
use Rattle.proxy_laws.specs.declared.actors.OwnerState.TheVariants as owner
use Rattle.proxy_laws.specs.declared.actors.Serving.{Serving}
use Rattle.proxy_laws.specs.declared.actors.Serving.TheVariants as serving
use Rattle.proxy_laws.specs.declared.events.Event.TheVariants as event
use Rattle.proxy_laws.specs.declared.records.Job.{Job}
use Rattle.proxy_laws.specs.declared.records.Started.{Started}
use Rattle.proxy_laws.specs.declared.records.Started.TheVariants as started
use Rattle.proxy_laws.specs.Laws.{Keeps, ServingKeeps}
use Rattle.proxy_laws.specs.Lists.{active_job, start_under}
use Rattle.proxy_laws.specs.Mailbox.{notices, mail_note_after_take}
use Rattle.proxy_laws.specs.Maps.{bit, upd}
use Rattle.proxy_laws.specs.Phases.{is_got, is_executing_notice, is_seen_empty, is_under, is_working, is_pending, is_received, serving_after_receive, serving_after_look, note_after_exchange}
use Rattle.proxy_laws.specs.Sound.{Sound, IsAnnounced, IsBorne, IsBorneClosed, IsServed, IsLawfulJob, bearers, uses_notice}
use Rattle.proxy_laws.specs.Starts.{is_notice, MayFollow}
use Rattle.proxy_laws.specs.Worlds.{WorldState}
use Rattle.proxy_laws.proofs.Apart.{started_some}
use Rattle.proxy_laws.proofs.Maps.{upd_case, upd_here, upd_else, bit_le, bit_and_false, sum_upd, term_le}
use Rattle.proxy_laws.proofs.Served.{Serves, serves}
use Rattle.proxy_laws.proofs.Worked.{Works, works}

-- an exchange of received for none leaves what is pending
exchanged_pending : (n : Note) → bit (is_pending (note_after_exchange n)) ≡ bit (is_pending n)
exchanged_pending note.None = refl
exchanged_pending note.Pending = refl
exchanged_pending note.Received = refl

-- a place that the owner has got is got under some notice
got_of : (at_place : Serving) → IsTrue (is_got at_place) → (k : ℕ) × (at_place ≡ serving.Got k)
got_of serving.Away is = absurd (cc)
got_of (serving.Got k) is = (k, refl)
got_of (serving.Executing k) is = absurd (cc)
got_of serving.Direct is = absurd (cc)
got_of serving.SeenEmpty is = absurd (cc)

receive_keeps : (p : ℕ) → Keeps (event.Receive p)
receive_keeps p w o e = serves w p (upd w.note p note.Received) (serving_after_receive (w.serving p)) (λ q ne. upd_else w.note p note.Received q ne) (rw (upd_here w.note p note.Received, got.1) here) o where
  got : (k : ℕ) × (w.serving p ≡ serving.Got k)
  got = got_of (w.serving p) e.conditions

  one : bit (is_got (w.serving p)) ≡ 1
  one = rw e.conditions refl

  here : Serves w p note.Received (serving.Executing got.0)
  here = record {
    announced = λ waits. omega arith;
    borne = record {
      open_once = λ not_closed. let b = (o.borne p e.there.place).open_once not_closed in let g = one in let most = bit_le (is_pending (w.note p)) in omega arith;
      closed = λ c. record {
        waits = λ waits. omega arith;
        got = λ is. absurd (cc);
        not_received = λ some. let none = ap bit (((o.borne p e.there.place).closed c).got e.conditions) in absurd (omega arith);
      };
    };
    served = record { received = λ is. refl; none = λ not_closed is. absurd (cc) };
    under = λ k is. subst (λ a. IsTrue (is_under k a)) (sym got.1) is;
    quiet = λ was. record { none_waits = was.none_waits; none_noted = λ not_closed. let quiet = ap (λ n. bit (is_pending n)) (was.none_noted not_closed) in let b = (o.borne p e.there.place).open_once not_closed in let g = one in absurd (omega arith) };
  }

direct_keeps : (p : ℕ) → Keeps (event.Direct p)
direct_keeps p w o e = serves w p w.note serving.Direct (λ q ne. refl) here o where
  away : w.serving p ≡ serving.Away
  away = e.conditions p e.there.place

  borne : IsBorne w.senders w.owner w.phase (w.sent p) (w.jobs p) (w.mail p) (w.note p) serving.Away p
  borne = subst (λ (a : Serving). IsBorne w.senders w.owner w.phase (w.sent p) (w.jobs p) (w.mail p) (w.note p) a p) away (o.borne p e.there.place)

  here : Serves w p (w.note p) serving.Direct
  here = record {
    announced = subst (λ (a : Serving). IsAnnounced w.senders w.phase (w.sent p) (w.jobs p) (w.note p) a p) away (o.announced p e.there.place);
    borne = record {
      open_once = borne.open_once;
      closed = λ c. record { waits = λ waits. omega arith; got = λ is. absurd (cc); not_received = (borne.closed c).not_received };
    };
    served = record { received = (subst (λ (a : Serving). IsServed w.owner (w.note p) a) away (o.served p e.there.place)).received; none = λ not_closed is. inr refl };
    under = λ k is. absurd (cc);
    quiet = λ was. was;
  }

-- an exchange of received for none leaves no received
exchanged_not_received : (n : Note) → note_after_exchange n ≡ note.Received → ⊥
exchanged_not_received note.None is = cc
exchanged_not_received note.Pending is = cc
exchanged_not_received note.Received is = cc

finish_keeps : (p : ℕ) → Keeps (event.Finish p)
finish_keeps p w o e = serves w p (upd w.note p (note_after_exchange (w.note p))) serving.Away (λ q ne. upd_else w.note p (note_after_exchange (w.note p)) q ne) (rw (upd_here w.note p (note_after_exchange (w.note p))) here) o where
  seen : w.serving p ≡ serving.SeenEmpty
  seen = e.conditions.0

  announced : IsAnnounced w.senders w.phase (w.sent p) (w.jobs p) (w.note p) serving.SeenEmpty p
  announced = subst (λ (a : Serving). IsAnnounced w.senders w.phase (w.sent p) (w.jobs p) (w.note p) a p) seen (o.announced p e.there.place)

  borne : IsBorne w.senders w.owner w.phase (w.sent p) (w.jobs p) (w.mail p) (w.note p) serving.SeenEmpty p
  borne = subst (λ (a : Serving). IsBorne w.senders w.owner w.phase (w.sent p) (w.jobs p) (w.mail p) (w.note p) a p) seen (o.borne p e.there.place)

  same : bit (is_pending (note_after_exchange (w.note p))) ≡ bit (is_pending (w.note p))
  same = exchanged_pending (w.note p)

  here : Serves w p (note_after_exchange (w.note p)) serving.Away
  here = record {
    announced = λ waits. let a = announced waits in let s = same in let none = bit_and_false (is_received (w.note p)) in omega arith;
    borne = record {
      open_once = λ not_closed. let b = borne.open_once not_closed in let s = same in omega arith;
      closed = λ c. record { waits = (borne.closed c).waits; got = λ is. absurd (cc); not_received = λ some is. exchanged_not_received (w.note p) is };
    };
    served = record { received = λ is. absurd (exchanged_not_received (w.note p) is); none = λ not_closed is. inl refl };
    under = λ k is. absurd (cc);
    quiet = λ was. record { none_waits = was.none_waits; none_noted = λ not_closed. ap note_after_exchange (was.none_noted not_closed) };
  }

-- what the owner comes to do at a place where it worked, and has seen no job waiting
record Looks (state : OwnerState) (old new : Serving) : Type 0 where
  not_got : is_got new ≡ false
  was_not_got : state ≢ owner.Closed → is_got old ≡ false
  received : IsTrue (is_executing_notice old || is_seen_empty old) → IsTrue (is_executing_notice new || is_seen_empty new)
  away : (old ≡ serving.Away) ⊎ (old ≡ serving.Direct) → new ≡ serving.Away
  under : (k : ℕ) → IsTrue (is_under k new) → ⊥

looks : (state : OwnerState) (at_place : Serving) → IsTrue (is_working state at_place) → Looks state at_place (serving_after_look at_place)
looks state (serving.Executing k) is = record { not_got = refl; was_not_got = λ ne. refl; received = λ x. refl; away = λ x. absurd (neither x); under = λ m x. cc } where
  neither : (serving.Executing k ≡ serving.Away) ⊎ (serving.Executing k ≡ serving.Direct) → ⊥
  neither (inl x) = cc
  neither (inr x) = cc
looks state serving.Direct is = record { not_got = refl; was_not_got = λ ne. refl; received = λ x. absurd (cc); away = λ x. refl; under = λ m x. cc }
looks owner.Closed (serving.Got k) is = record { not_got = refl; was_not_got = λ ne. absurd (ne refl); received = λ x. absurd (cc); away = λ x. absurd (neither x); under = λ m x. cc } where
  neither : (serving.Got k ≡ serving.Away) ⊎ (serving.Got k ≡ serving.Direct) → ⊥
  neither (inl x) = cc
  neither (inr x) = cc
looks owner.Open (serving.Got k) is = absurd (cc)
looks owner.Closing (serving.Got k) is = absurd (cc)
looks owner.Open serving.Away is = absurd (cc)
looks owner.Closing serving.Away is = absurd (cc)
looks owner.Closed serving.Away is = absurd (cc)
looks owner.Open serving.SeenEmpty is = absurd (cc)
looks owner.Closing serving.SeenEmpty is = absurd (cc)
looks owner.Closed serving.SeenEmpty is = absurd (cc)

look_place_keeps : (p : ℕ) → Keeps (event.LookPlace p)
look_place_keeps p w o e = serves w p w.note (serving_after_look (w.serving p)) (λ q ne. refl) here o where
  l : Looks w.owner (w.serving p) (serving_after_look (w.serving p))
  l = looks w.owner (w.serving p) e.conditions.0.0

  got_zero : bit (is_got (serving_after_look (w.serving p))) ≡ 0
  got_zero = rw l.not_got refl

  here : Serves w p (w.note p) (serving_after_look (w.serving p))
  here = record {
    announced = λ waits. let all = e.conditions.1 in absurd (omega arith);
    borne = record {
      open_once = λ not_closed. let b = (o.borne p e.there.place).open_once not_closed in let zero_old = ap bit (l.was_not_got not_closed) in let z = got_zero in omega arith;
      closed = λ c. record {
        waits = λ waits. let all = e.conditions.1 in absurd (omega arith);
        got = λ is. let none = l.not_got in absurd (cc);
        not_received = λ some. ((o.borne p e.there.place).closed c).not_received (let z = got_zero in omega arith);
      };
    };
    served = record { received = λ is. l.received ((o.served p e.there.place).received is); none = λ not_closed is. inl (l.away ((o.served p e.there.place).none not_closed is)) };
    under = λ k is. absurd (l.under k is);
    quiet = λ was. was;
  }

-- what is known of the start of a job that the owner takes
record Starts (state : OwnerState) (at_place : Serving) (start : Started) : Type 0 where
  closing : start ≡ started.Closing → state ≡ owner.Closed
  closed : state ≡ owner.Closed → start ≡ started.Closing
  under : (k : ℕ) → start ≡ started.Notice k → at_place ≡ serving.Executing k

starts : (state : OwnerState) (at_place : Serving) → Starts state at_place (start_under state at_place)
starts owner.Closed at_place = record { closing = λ is. refl; closed = λ c. refl; under = λ k is. absurd (cc) }
starts owner.Open (serving.Executing k) = record { closing = λ is. absurd (cc); closed = λ c. absurd (cc); under = λ m is. ap serving.Executing (cc) }
starts owner.Closing (serving.Executing k) = record { closing = λ is. absurd (cc); closed = λ c. absurd (cc); under = λ m is. ap serving.Executing (cc) }
starts owner.Open _ = record { closing = λ is. absurd (cc); closed = λ c. absurd (cc); under = λ m is. absurd (cc) }
starts owner.Closing _ = record { closing = λ is. absurd (cc); closed = λ c. absurd (cc); under = λ m is. absurd (cc) }

-- a start is under the notice that its test names
same_start : (k : ℕ) (x : Started) → IsTrue (is_notice k x) → x ≡ started.Notice k
same_start k (started.Notice m) is = ap started.Notice (eqb-true m k is)
same_start k started.Direct is = absurd (cc)
same_start k started.Closing is = absurd (cc)

-- a job that the owner takes may follow each that it took there
follows : (state : OwnerState) (got : ℕ) (at_place : Serving) (job : Job) (start : Started) → Starts state at_place start → IsLawfulJob state got at_place job → MayFollow job.started start
follows state got at_place job start s lawful = after job.started lawful.closing lawful.in_phase start s.closed s.under where
  after : (earlier : Started) → (earlier ≡ started.Closing → state ≡ owner.Closed) → ((k m : ℕ) → earlier ≡ started.Notice k → IsTrue (is_under m at_place) → k ≤ m) → (later : Started) → (state ≡ owner.Closed → later ≡ started.Closing) → ((k : ℕ) → later ≡ started.Notice k → at_place ≡ serving.Executing k) → MayFollow earlier later
  after (started.Notice k) closing phase (started.Notice m) closed under = phase k m refl (rw (under m refl) (eq-eqb m m refl))
  after (started.Notice k) closing phase started.Direct closed under = tt
  after (started.Notice k) closing phase started.Closing closed under = tt
  after started.Direct closing phase later closed under = tt
  after started.Closing closing phase later closed under = rw (closed (closing refl)) tt

take_job_keeps : (p : ℕ) → Keeps (event.TakeJob p)
take_job_keeps p w o e = works w p (w.jobs p ++ active_job start ∷ []) here o where
  start : Started
  start = start_under w.owner (w.serving p)

  s : Starts w.owner (w.serving p) (start_under w.owner (w.serving p))
  s = starts w.owner (w.serving p)

  place : p < w.places
  place = e.there.place

  longer : length (w.jobs p ++ active_job (start_under w.owner (w.serving p)) ∷ []) ≡ length (w.jobs p) + 1
  longer = length-append (w.jobs p) (active_job (start_under w.owner (w.serving p)) ∷ [])

  under : (k : ℕ) → start_under w.owner (w.serving p) ≡ started.Notice k → IsTrue (is_under k (w.serving p))
  under k is = rw (s.under k is) (eq-eqb k k refl)

  lawful : IsLawfulJob w.owner w.got (w.serving p) (active_job (start_under w.owner (w.serving p)))
  lawful = record {
    cancelled = λ is. absurd (cc);
    closing = s.closing;
    unfinished = λ is fate. cc;
    in_phase = λ k m is at. subst (λ (n : ℕ). k ≤ n) (eqb-true k m (subst (λ (a : Serving). IsTrue (is_under m a)) (s.under k is) at)) (omega arith);
    was_got = λ k is. o.jobs.phase_got p k place (under k is);
  }

  one : (k : ℕ) → IsTrue (list_any (λ job. is_notice k job.started) (active_job (start_under w.owner (w.serving p)) ∷ [])) → IsTrue (uses_notice k (w.jobs p) (w.serving p))
  one k is = elim (or_cases (is_notice k (start_under w.owner (w.serving p))) false is) [
    | inl x ↦ or_right (list_any (λ job. is_notice k job.started) (w.jobs p)) _ (under k (same_start k _ x))
    | inr x ↦ absurd (cc)
  ]

  uses : (k : ℕ) → IsTrue (uses_notice k (w.jobs p ++ active_job (start_under w.owner (w.serving p)) ∷ []) (w.serving p)) → IsTrue (uses_notice k (w.jobs p) (w.serving p))
  uses k is = elim (or_cases (list_any (λ job. is_notice k job.started) (w.jobs p ++ active_job (start_under w.owner (w.serving p)) ∷ [])) (is_under k (w.serving p)) is) [
    | inl any ↦ elim (or_cases (list_any (λ job. is_notice k job.started) (w.jobs p)) (list_any (λ job. is_notice k job.started) (active_job (start_under w.owner (w.serving p)) ∷ [])) (sym (list_any-append (λ job. is_notice k job.started) (w.jobs p) (active_job (start_under w.owner (w.serving p)) ∷ [])) ∙ any)) [
      | inl old ↦ or_left (list_any (λ job. is_notice k job.started) (w.jobs p)) (is_under k (w.serving p)) old
      | inr last ↦ one k last
    ]
    | inr at ↦ or_right (list_any (λ job. is_notice k job.started) (w.jobs p)) _ at
  ]

  here : Works w p (w.jobs p ++ active_job (start_under w.owner (w.serving p)) ∷ [])
  here = record {
    more = omega (arith, longer);
    taken = let fewer = e.conditions.1 in omega (arith, longer);
    each = All-push (IsLawfulJob w.owner w.got (w.serving p)) (w.jobs p) (active_job (start_under w.owner (w.serving p))) (o.jobs.each p place) lawful;
    in_order = all_pairs_push (λ (x y : Job). MayFollow x.started y.started) (w.jobs p) (active_job (start_under w.owner (w.serving p))) (o.jobs.in_order p place) (λ k d near. follows w.owner w.got (w.serving p) _ _ s (o.jobs.each p place k d near));
    uses = uses;
  }

-- a place in the mailbox has not the note received
pub mailed_not_received : (w : WorldState) (p : ℕ) → Sound w → p < w.places → IsTrue (w.mail p) → w.note p ≢ note.Received
mailed_not_received w p o place mailed is = by_owner w.owner (o.borne p place).open_once (λ c. (o.borne p place).closed c) where
  one : bit (w.mail p) ≡ 1
  one = rw mailed refl

  by_owner : (state : OwnerState) → (state ≢ owner.Closed → bearers w.senders w.phase (w.mail p) (w.serving p) p ≡ bit (is_pending (w.note p))) → (state ≡ owner.Closed → IsBorneClosed (w.sent p) (w.jobs p) (w.mail p) (w.note p) (w.serving p)) → ⊥
  by_owner owner.Closed once closed = (closed refl).not_received (let m = one in omega arith) is
  by_owner owner.Open once closed = let b = once (λ c. cc) in let quiet = ap (λ n. bit (is_pending n)) is in let m = one in omega arith
  by_owner owner.Closing once closed = let b = once (λ c. cc) in let quiet = ap (λ n. bit (is_pending n)) is in let m = one in omega arith

not_received_test : (n : Note) → n ≢ note.Received → is_received n ≡ false
not_received_test note.None ne = refl
not_received_test note.Pending ne = refl
not_received_test note.Received ne = absurd (ne refl)

-- a notice under which the owner is, or started a job, was got
pub notice_got : (w : WorldState) (p k : ℕ) → Sound w → p < w.places → IsTrue (uses_notice k (w.jobs p) (w.serving p)) → k ≤ w.got
notice_got w p k o place is = elim (or_cases _ _ is) [
  | inl any ↦ let some = (started_some k (w.jobs p)).0 any in (o.jobs.each p place some.0 (active_job started.Direct) some.1).was_got k (same_start k _ (some.2 (active_job started.Direct)))
  | inr under ↦ o.jobs.phase_got p k place under
]

take_notice_keeps : (p : ℕ) → Keeps (event.TakeNotice p)
take_notice_keeps p w o e = record {
  refs = o.refs;
  engaged = o.engaged;
  announced = λ q at. upd_case w.serving p (serving.Got (w.got + 1)) (λ r a. IsAnnounced w.senders w.phase (w.sent r) (w.jobs r) (w.note r) a r) q
      (λ same. rw same (λ waits. let told = o.announced p place waits in let none : bit (is_received (w.note p) && is_executing_notice (w.serving p)) ≡ 0 = rw (not_received_test (w.note p) not_received) refl in omega arith))
      (λ ne. o.announced q at);
  borne = λ q at. upd_case w.serving p (serving.Got (w.got + 1)) (λ r a. IsBorne w.senders w.owner w.phase (w.sent r) (w.jobs r) (upd w.mail p false r) (w.note r) a r) q
      (λ same. rw (same, upd_here w.mail p false) here_borne)
      (λ ne. rw (upd_else w.mail p false q ne) (o.borne q at));
  served = λ q at. upd_case w.serving p (serving.Got (w.got + 1)) (λ r a. IsServed w.owner (w.note r) a) q
      (λ same. rw same (record { received = λ is. absurd (not_received is); none = λ not_closed is. let quiet = ap (λ n. bit (is_pending n)) is in let b = (o.borne p place).open_once not_closed in let t = was_mailed in absurd (omega arith) }))
      (λ ne. o.served q at);
  closed = o.closed;
  jobs = record {
    taken = o.jobs.taken;
    each = λ q at n d near. lawful q at _ (o.jobs.each q at n d near);
    in_order = o.jobs.in_order;
    one_place = λ q r k at_q at_r of_q of_r. apart q r k at_q at_r (used q k of_q) (used r k of_r);
    phase_got = λ q k at. upd_case w.serving p (serving.Got (w.got + 1)) (λ r a. IsTrue (is_under k a) → k ≤ w.got + 1) q
        (λ same under. let is = eqb-true (w.got + 1) k under in omega arith)
        (λ ne under. let least = o.jobs.phase_got q k at under in omega arith);
  };
  lives = o.lives;
  mail = λ q at some. announced_still q at some;
  turns = o.turns;
  notices = let m = fewer in let few = o.notices in omega arith;
} where
  place : p < w.places
  place = e.there.place

  was_mailed : bit (w.mail p) ≡ 1
  was_mailed = rw e.conditions.1 refl

  fewer : notices w.places (upd w.mail p false) + 1 ≡ notices w.places w.mail
  fewer = let sum = sum_upd w.mail p false (λ b. bit b) w.places place in let one = was_mailed in omega arith

  -- another place in the mailbox is one of those left, so the mailbox's note stays
  announced_still : (q : ℕ) → q < w.places → IsTrue (upd w.mail p false q) → mail_note_after_take w.places (upd w.mail p false) w.mail_note ≡ note.Pending
  announced_still q at some = let one : bit (upd w.mail p false q) ≡ 1 = rw some refl in
      let least = term_le w.places (λ r. bit (upd w.mail p false r)) q at in
      rw (ne_eqb (notices w.places (upd w.mail p false)) 0 (λ is. omega arith))
      (o.mail q at (upd_case w.mail p false (λ r b. IsTrue b → IsTrue (w.mail r)) q (λ same is. absurd (cc)) (λ ne is. is) some))

  not_received : w.note p ≢ note.Received
  not_received = mailed_not_received w p o place e.conditions.1

  here_borne : IsBorne w.senders w.owner w.phase (w.sent p) (w.jobs p) false (w.note p) (serving.Got (w.got + 1)) p
  here_borne = record {
    open_once = λ not_closed. let b = (o.borne p place).open_once not_closed in let one = was_mailed in let most = bit_le (is_pending (w.note p)) in omega arith;
    closed = λ closed. record { waits = λ waits. omega arith; got = λ is. refl; not_received = λ some. not_received };
  }

  lawful : (q : ℕ) → q < w.places → (job : Job) → IsLawfulJob w.owner w.got (w.serving q) job → IsLawfulJob w.owner (w.got + 1) (upd w.serving p (serving.Got (w.got + 1)) q) job
  lawful q at job was = record {
    cancelled = was.cancelled;
    closing = was.closing;
    unfinished = was.unfinished;
    in_phase = λ k m is. upd_case w.serving p (serving.Got (w.got + 1)) (λ r a. IsTrue (is_under m a) → k ≤ m) q
        (λ same under. let number = eqb-true (w.got + 1) m under in let least = was.was_got k is in omega arith)
        (λ ne. was.in_phase k m is);
    was_got = λ k is. let least = was.was_got k is in omega arith;
  }

  -- the owner is under the new notice at p alone
  used : (q k : ℕ) → IsTrue (uses_notice k (w.jobs q) (upd w.serving p (serving.Got (w.got + 1)) q)) → IsTrue (uses_notice k (w.jobs q) (w.serving q)) ⊎ ((q ≡ p) × (k ≡ w.got + 1))
  used q k = upd_case w.serving p (serving.Got (w.got + 1)) (λ r a. IsTrue (uses_notice k (w.jobs r) a) → IsTrue (uses_notice k (w.jobs r) (w.serving r)) ⊎ ((r ≡ p) × (k ≡ w.got + 1))) q
      (λ same is. elim (or_cases (list_any (λ job. is_notice k job.started) (w.jobs q)) (is_under k (serving.Got (w.got + 1))) is) [
        | inl any ↦ inl (or_left (list_any (λ job. is_notice k job.started) (w.jobs q)) (is_under k (w.serving q)) any)
        | inr under ↦ inr (same, sym (eqb-true (w.got + 1) k under))
      ])
      (λ ne is. inl is)

  apart : (q r k : ℕ) → q < w.places → r < w.places → IsTrue (uses_notice k (w.jobs q) (w.serving q)) ⊎ ((q ≡ p) × (k ≡ w.got + 1)) → IsTrue (uses_notice k (w.jobs r) (w.serving r)) ⊎ ((r ≡ p) × (k ≡ w.got + 1)) → q ≡ r
  apart q r k at_q at_r (inl x) (inl y) = o.jobs.one_place q r k at_q at_r x y
  apart q r k at_q at_r (inl x) (inr y) = let least = notice_got w q k o at_q x in let number = y.1 in absurd (omega arith)
  apart q r k at_q at_r (inr x) (inl y) = let least = notice_got w r k o at_r y in let number = x.1 in absurd (omega arith)
  apart q r k at_q at_r (inr x) (inr y) = x.0 ∙ sym y.0

pub serving_keeps : ServingKeeps
serving_keeps = record {
  look_mail = λ word w o e. o;
  take_notice = take_notice_keeps;
  receive = receive_keeps;
  direct = direct_keeps;
  take_job = take_job_keeps;
  look_place = look_place_keeps;
  finish = finish_keeps;
}
