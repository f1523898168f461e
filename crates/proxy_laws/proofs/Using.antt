-- The events on the lives of places keep a world sound.
use Rattle.std.proofs.Common.{◌≡◌, ◌≢◌, ◌⊎◌, inl, inr, ℕ, ◌+◌, ◌-◌, ◌<◌, ◌≤◌, ◌==◌, Bool, true, false, cond, ◌&&◌, length, refl, arith, ap, sym, ◌∙◌}
use Rattle.std.specs.Prelude.{IsTrue}
use Rattle.std.proofs.lemmas.Bool.{cases_lt, eqb-true, ne_eqb}
use Rattle.proxy_laws.specs.declared.actors.Look.{Look}
use Rattle.proxy_laws.specs.declared.actors.Look.TheVariants as look
use Rattle.proxy_laws.specs.declared.actors.Note.{Note}
use Rattle.proxy_laws.specs.declared.actors.Note.TheVariants as note
use Rattle.proxy_laws.specs.declared.actors.Phase.{Phase}
use Rattle.proxy_laws.specs.declared.actors.Phase.TheVariants as phase
use Rattle.proxy_laws.specs.declared.events.Event.TheVariants as event
use Rattle.proxy_laws.specs.Laws.{Keeps, LivesKeep}
use Rattle.proxy_laws.specs.Maps.{bit, upd, sum_below, count_below}
use Rattle.proxy_laws.specs.Phases.{names, owes_note_at, is_pending, is_received, is_executing_notice, looks_at, saw_none_at, life_after_mark}
use Rattle.proxy_laws.specs.Sound.{Sound, UsesAreEngaged, LivesAreLawful, IsQuiet}
use Rattle.proxy_laws.specs.Worlds.{WorldState}
use Rattle.proxy_laws.proofs.Living.{used_lives, looked_unused}
use Rattle.proxy_laws.proofs.Maps.{bit_here, bit_elsewhere, upd_case, upd_here, upd_else, sum_upd, sum_le, term_le}

-- only lives, uses and looks change
lived : (w : WorldState) (life : ℕ → ℕ) (uses : ℕ → ℕ → ℕ) (look : ℕ → Look) → Sound w → UsesAreEngaged w.senders w.places w.phase uses → LivesAreLawful w.senders w.places w.owner w.sent w.jobs w.note life uses look → Sound (record w { life = life; uses = uses; look = look })
lived w life uses look o engaged lives = record {
  refs = o.refs;
  engaged = engaged;
  announced = o.announced;
  borne = o.borne;
  served = o.served;
  closed = o.closed;
  jobs = o.jobs;
  lives = lives;
  mail = o.mail;
  turns = o.turns;
  notices = o.notices;
}

-- Sender s comes to have k uses of p, whose life comes to be l.
module _ (w : WorldState) (s p k l : ℕ) (o : Sound w) (near : s < w.senders) (place : p < w.places) where
  abbrev changed : ℕ → ℕ → ℕ
  changed = upd w.uses s (upd (w.uses s) p k)

  -- where the life tells the uses as before
  used_changed : (l - 2) + w.uses s p ≡ (w.life p - 2) + k → (q : ℕ) → q < w.places → sum_below w.senders (λ r. changed r q) ≡ upd w.life p l q - 2
  used_changed same_sum q at = let sum = sum_upd w.uses s (upd (w.uses s) p k) (λ u. u q) w.senders near in let was = o.lives.used q at in
      upd_case w.life p l (λ r v. r ≡ q → sum_below w.senders (λ t. changed t r) ≡ v - 2) q
      (λ same e. let row : upd (w.uses s) p k q ≡ k = rw same (upd_here (w.uses s) p k) in let life_same = ap w.life same in let uses_same = ap (w.uses s) same in omega arith)
      (λ ne e. let row = upd_else (w.uses s) p k q ne in omega arith)
      refl

  engaged_changed : bit (names p (w.phase s)) ≤ k → UsesAreEngaged w.senders w.places w.phase changed
  engaged_changed enough r q there at = upd_case w.uses s (upd (w.uses s) p k) (λ t u. bit (names q (w.phase t)) ≤ u q) r
      (λ same. rw same (upd_case (w.uses s) p k (λ x v. bit (names x (w.phase s)) ≤ v) q (λ e. rw e enough) (λ ne. o.engaged s q near at)))
      (λ ne. o.engaged r q there at)

  -- a use that is there now was there, or is the one of s at p
  used_before : (r q : ℕ) → 0 < changed r q → (0 < w.uses r q) ⊎ ((r ≡ s) × (q ≡ p))
  used_before r q = upd_case w.uses s (upd (w.uses s) p k) (λ t u. 0 < u q → (0 < w.uses t q) ⊎ ((t ≡ s) × (q ≡ p))) r
      (λ same. rw same (upd_case (w.uses s) p k (λ x v. 0 < v → (0 < w.uses s x) ⊎ ((s ≡ s) × (x ≡ p))) q (λ e some. inr (refl, e)) (λ ne some. inl some)))
      (λ ne some. inl some)

  -- where s had a use of p before, the uses of a place stay one sender's
  one_user_kept : 0 < w.uses s p → (r t q : ℕ) → r < w.senders → t < w.senders → q < w.places → q ≢ 0 → 0 < changed r q → 0 < changed t q → r ≡ t
  one_user_kept had r t q near_r near_t at ne of_r of_t = o.lives.one_user r t q near_r near_t at ne (was r of_r) (was t of_t) where
    was : (x : ℕ) → 0 < changed x q → 0 < w.uses x q
    was x now = elim (used_before x q now) [
      | inl some ↦ some
      | inr here ↦ rw (here.0, here.1) had
    ]

create_keeps : (s p : ℕ) → Keeps (event.Create s p)
create_keeps s p w o e = lived w (upd w.life p 3) (upd w.uses s (upd (w.uses s) p (w.uses s p + 1))) w.look o
    (engaged_changed w s p (w.uses s p + 1) 3 o near place (let was = o.engaged s p near place in omega arith))
    (record {
      used = used_changed w s p (w.uses s p + 1) 3 o near place (omega arith);
      looked = λ q at. upd_case w.life p 3 (λ r v. count_below w.senders (λ t. looks_at r (w.look t)) ≡ bit (v == 2)) q (λ same. rw same (let was = o.lives.looked p place in let none : bit (w.life p == 2) ≡ 0 = rw free refl in omega arith)) (λ ne. o.lives.looked q at);
      free = λ q at. upd_case w.life p 3 (λ r v. v ≡ 0 → IsQuiet w.owner (w.sent r) (w.jobs r) (w.note r)) q (λ same dead. absurd (omega arith)) (λ ne dead. o.lives.free q at dead);
      saw_none = o.lives.saw_none;
      one_user = one_user;
    })
  where
    near : s < w.senders
    near = e.there.sender

    place : p < w.places
    place = e.there.place

    free : w.life p ≡ 0
    free = e.conditions

    unused : (t : ℕ) → t < w.senders → w.uses t p ≡ 0
    unused t near_t = let least = term_le w.senders (λ r. w.uses r p) t near_t in let sum = o.lives.used p place in let dead = free in omega arith

    one_user : (r t q : ℕ) → r < w.senders → t < w.senders → q < w.places → q ≢ 0 → 0 < upd w.uses s (upd (w.uses s) p (w.uses s p + 1)) r q → 0 < upd w.uses s (upd (w.uses s) p (w.uses s p + 1)) t q → r ≡ t
    one_user r t q near_r near_t at ne of_r of_t = both (used_before w s p (w.uses s p + 1) 3 o near place r q of_r) (used_before w s p (w.uses s p + 1) 3 o near place t q of_t) where
      both : (0 < w.uses r q) ⊎ ((r ≡ s) × (q ≡ p)) → (0 < w.uses t q) ⊎ ((t ≡ s) × (q ≡ p)) → r ≡ t
      both (inl x) (inl y) = o.lives.one_user r t q near_r near_t at ne x y
      both (inl x) (inr y) = let zero_uses = unused r near_r in let same = ap (w.uses r) y.1 in absurd (omega arith)
      both (inr x) (inl y) = let zero_uses = unused t near_t in let same = ap (w.uses t) x.1 in absurd (omega arith)
      both (inr x) (inr y) = x.0 ∙ sym y.0

clone_use_keeps : (s p : ℕ) → Keeps (event.CloneUse s p)
clone_use_keeps s p w o e = lived w (upd w.life p (w.life p + 1)) (upd w.uses s (upd (w.uses s) p (w.uses s p + 1))) w.look o
    (engaged_changed w s p (w.uses s p + 1) (w.life p + 1) o near place (let was = o.engaged s p near place in omega arith))
    (record {
      used = used_changed w s p (w.uses s p + 1) (w.life p + 1) o near place (let live = lives in omega arith);
      looked = λ q at. upd_case w.life p (w.life p + 1) (λ r v. count_below w.senders (λ t. looks_at r (w.look t)) ≡ bit (v == 2)) q
          (λ same. rw same (let was = o.lives.looked p place in let live = lives in let none : bit (w.life p == 2) ≡ 0 = rw (ne_eqb (w.life p) 2 (omega arith)) refl in let none_now : bit (w.life p + 1 == 2) ≡ 0 = rw (ne_eqb (w.life p + 1) 2 (omega arith)) refl in omega arith))
          (λ ne. o.lives.looked q at);
      free = λ q at. upd_case w.life p (w.life p + 1) (λ r v. v ≡ 0 → IsQuiet w.owner (w.sent r) (w.jobs r) (w.note r)) q (λ same dead. absurd (omega arith)) (λ ne dead. o.lives.free q at dead);
      saw_none = o.lives.saw_none;
      one_user = one_user_kept w s p (w.uses s p + 1) (w.life p + 1) o near place had;
    })
  where
    near : s < w.senders
    near = e.there.sender

    place : p < w.places
    place = e.there.place

    had : 0 < w.uses s p
    had = let has = e.conditions in omega arith

    lives : 3 ≤ w.life p
    lives = used_lives w s p o near place had

-- who looks at p looks at no other place
looks_once : (p q : ℕ) (l : Look) → IsTrue (looks_at p l) → looks_at q l ≡ (p == q)
looks_once p q look.Nowhere is = absurd (cc)
looks_once p q (look.At r) is = ap (λ x. x == q) (eqb-true r p is)
looks_once p q (look.Saw r n) is = ap (λ x. x == q) (eqb-true r p is)

-- who looks at no place sees none nowhere
nowhere_saw : (p : ℕ) (l : Look) → l ≡ look.Nowhere → IsTrue (saw_none_at p l) → ⊥
nowhere_saw p l is saw = let none = ap (saw_none_at p) is in cc

-- The looks once sender s looks at `new`, which says of each place what its life says more.
module _ (w : WorldState) (s : ℕ) (new : Look) (o : Sound w) (near : s < w.senders) where
  looks_counted : (q : ℕ) → count_below w.senders (λ r. looks_at q (upd w.look s new r)) + bit (looks_at q (w.look s)) ≡ count_below w.senders (λ r. looks_at q (w.look r)) + bit (looks_at q new)
  looks_counted q = sum_upd w.look s new (λ x. bit (looks_at q x)) w.senders near

  saw_kept : ((q : ℕ) → q < w.places → IsTrue (saw_none_at q new) → IsQuiet w.owner (w.sent q) (w.jobs q) (w.note q)) → (r q : ℕ) → r < w.senders → q < w.places → IsTrue (saw_none_at q (upd w.look s new r)) → IsQuiet w.owner (w.sent q) (w.jobs q) (w.note q)
  saw_kept quiet r q near_r at = upd_case w.look s new (λ t x. t < w.senders → IsTrue (saw_none_at q x) → IsQuiet w.owner (w.sent q) (w.jobs q) (w.note q)) r (λ same there saw. quiet q at saw) (λ ne there saw. o.lives.saw_none r q there at saw) near_r

  -- where the life of p comes to be l
  looked_changed : (p l : ℕ) → p < w.places → bit (w.life p == 2) + bit (looks_at p new) ≡ bit (l == 2) + bit (looks_at p (w.look s)) → ((q : ℕ) → q ≢ p → bit (looks_at q new) ≡ bit (looks_at q (w.look s))) → (q : ℕ) → q < w.places → count_below w.senders (λ r. looks_at q (upd w.look s new r)) ≡ bit (upd w.life p l q == 2)
  looked_changed p l place here other q at = upd_case w.life p l (λ r v. r ≡ q → count_below w.senders (λ t. looks_at r (upd w.look s new t)) ≡ bit (v == 2)) q
      (λ same e. rw same (let m = looks_counted p in let was = o.lives.looked p place in omega arith))
      (λ ne e. let m = looks_counted q in let was = o.lives.looked q at in let same = other q ne in omega arith)
      refl

release_use_keeps : (s p : ℕ) → Keeps (event.ReleaseUse s p)
release_use_keeps s p w o e = by_life (w.life p - 1 == 2) refl where
  near : s < w.senders
  near = e.there.sender

  place : p < w.places
  place = e.there.place

  nowhere : w.look s ≡ look.Nowhere
  nowhere = e.conditions.0

  had : 0 < w.uses s p
  had = let has = e.conditions.1 in omega arith

  lives : 3 ≤ w.life p
  lives = used_lives w s p o near place had

  free : (q : ℕ) → q < w.places → upd w.life p (w.life p - 1) q ≡ 0 → IsQuiet w.owner (w.sent q) (w.jobs q) (w.note q)
  free q at = upd_case w.life p (w.life p - 1) (λ r v. v ≡ 0 → IsQuiet w.owner (w.sent r) (w.jobs r) (w.note r)) q (λ same dead. let live = lives in absurd (omega arith)) (λ ne dead. o.lives.free q at dead)

  with_look : (new : Look) → ((q : ℕ) → q < w.places → count_below w.senders (λ r. looks_at q (upd w.look s new r)) ≡ bit (upd w.life p (w.life p - 1) q == 2)) → ((q : ℕ) → IsTrue (saw_none_at q new) → ⊥) → Sound (record w { life = upd w.life p (w.life p - 1); uses = upd w.uses s (upd (w.uses s) p (w.uses s p - 1)); look = upd w.look s new })
  with_look new looked unseen = lived w (upd w.life p (w.life p - 1)) (upd w.uses s (upd (w.uses s) p (w.uses s p - 1))) (upd w.look s new) o
      (engaged_changed w s p (w.uses s p - 1) (w.life p - 1) o near place (let has = e.conditions.1 in omega arith))
      (record {
        used = used_changed w s p (w.uses s p - 1) (w.life p - 1) o near place (let live = lives in let h = had in omega arith);
        looked = looked;
        free = free;
        saw_none = saw_kept w s new o near (λ q at saw. absurd (unseen q saw));
        one_user = one_user_kept w s p (w.uses s p - 1) (w.life p - 1) o near place had;
      })

  unlooked : (q : ℕ) → bit (looks_at q (w.look s)) ≡ 0
  unlooked q = rw nowhere refl

  by_life : (b : Bool) → (w.life p - 1 == 2) ≡ b → Sound (record w { life = upd w.life p (w.life p - 1); uses = upd w.uses s (upd (w.uses s) p (w.uses s p - 1)); look = upd w.look s (cond b (look.At p) (w.look s)) })
  by_life true is = with_look (look.At p)
      (looked_changed w s (look.At p) o near p (w.life p - 1) place
      (let three : bit (w.life p == 2) ≡ 0 = (let last = eqb-true (w.life p - 1) 2 is in rw (ne_eqb (w.life p) 2 (omega arith)) refl) in let one : bit (w.life p - 1 == 2) ≡ 1 = rw is refl in let here = bit_here p in let none = unlooked p in omega arith)
      (λ q ne. let elsewhere = bit_elsewhere p q ne in let none = unlooked q in omega arith))
      (λ q saw. cc)
  by_life false is = with_look (w.look s)
      (looked_changed w s (w.look s) o near p (w.life p - 1) place
      (let more : bit (w.life p == 2) ≡ 0 = (let live = lives in rw (ne_eqb (w.life p) 2 (omega arith)) refl) in let none : bit (w.life p - 1 == 2) ≡ 0 = rw is refl in omega arith)
      (λ q ne. refl))
      (λ q saw. nowhere_saw q (w.look s) nowhere saw)

claim_keeps : (s p : ℕ) → Keeps (event.Claim s p)
claim_keeps s p w o e = lived w (upd w.life p 2) w.uses (upd w.look s (look.At p)) o o.engaged (record {
  used = λ q at. upd_case w.life p 2 (λ r v. sum_below w.senders (λ t. w.uses t r) ≡ v - 2) q (λ same. rw same (let was = o.lives.used p place in let z = zombie in omega arith)) (λ ne. o.lives.used q at);
  looked = looked_changed w s (look.At p) o near p 2 place
      (let none : bit (w.life p == 2) ≡ 0 = rw zombie refl in let here = bit_here p in let nowhere = unlooked p in omega arith)
      (λ q ne. let elsewhere = bit_elsewhere p q ne in let nowhere = unlooked q in omega arith);
  free = λ q at. upd_case w.life p 2 (λ r v. v ≡ 0 → IsQuiet w.owner (w.sent r) (w.jobs r) (w.note r)) q (λ same dead. absurd (omega arith)) (λ ne dead. o.lives.free q at dead);
  saw_none = saw_kept w s (look.At p) o near (λ q at saw. absurd (cc));
  one_user = o.lives.one_user;
}) where
  near : s < w.senders
  near = e.there.sender

  place : p < w.places
  place = e.there.place

  zombie : w.life p ≡ 1
  zombie = e.conditions.1

  unlooked : (q : ℕ) → bit (looks_at q (w.look s)) ≡ 0
  unlooked q = rw e.conditions.0 refl

-- what is seen of a note says which it was, and where
saw_what : (q p : ℕ) (n : Note) → IsTrue (saw_none_at q (look.Saw p n)) → (n ≡ note.None) × (p ≡ q)
saw_what q p note.None is = (refl, eqb-true p q is)
saw_what q p note.Pending is = absurd (cc)
saw_what q p note.Received is = absurd (cc)

owing_is_there : (p : ℕ) (ph : Phase) → bit (owes_note_at p ph) ≤ bit (names p ph)
owing_is_there p phase.Idle = omega arith
owing_is_there p phase.Referenced = omega arith
owing_is_there p (phase.Holding q) = omega arith
owing_is_there p (phase.Put q) = omega arith
owing_is_there p (phase.Owing q) = omega arith
owing_is_there p (phase.Messenger q) = omega arith

-- a place that a sender looks at is quiet where its note is none
looked_quiet : (w : WorldState) (s p : ℕ) → Sound w → s < w.senders → p < w.places → IsTrue (looks_at p (w.look s)) → w.note p ≡ note.None → IsQuiet w.owner (w.sent p) (w.jobs p) (w.note p)
looked_quiet w s p o near place looks none = record {
  none_waits = elim (cases_lt (length (w.jobs p)) (length (w.sent p))) [
    | inl waits ↦ let told = o.announced p place waits in let owing = none_owes in let not_pending : bit (is_pending (w.note p)) ≡ 0 = rw none refl in let not_received : bit (is_received (w.note p) && is_executing_notice (w.serving p)) ≡ 0 = rw none refl in absurd (omega arith)
    | inr all ↦ all
  ];
  none_noted = λ not_closed. none;
} where
  none_owes : count_below w.senders (λ r. owes_note_at p (w.phase r)) ≡ 0
  none_owes = let most = sum_le w.senders (λ r. bit (owes_note_at p (w.phase r))) (λ r. w.uses r p) (λ r near_r. let a = owing_is_there p (w.phase r) in let b = o.engaged r p near_r place in omega arith) in let uses = o.lives.used p place in let unused = looked_unused w s p o near place looks in omega arith

look_note_keeps : (s p : ℕ) → Keeps (event.LookNote s p)
look_note_keeps s p w o e = lived w w.life w.uses (upd w.look s (look.Saw p (w.note p))) o o.engaged (record {
  used = o.lives.used;
  looked = λ q at. let m = looks_counted w s (look.Saw p (w.note p)) o near q in let was = o.lives.looked q at in let same = ap bit (looks_once p q (w.look s) looks) in omega arith;
  free = o.lives.free;
  saw_none = saw_kept w s (look.Saw p (w.note p)) o near (λ q at saw. let what = saw_what q p (w.note p) saw in rw (← what.1) (looked_quiet w s p o near place looks what.0));
  one_user = o.lives.one_user;
}) where
  near : s < w.senders
  near = e.there.sender

  place : p < w.places
  place = e.there.place

  looks : IsTrue (looks_at p (w.look s))
  looks = e.conditions

-- a place that is marked free was seen with no note
marked_free : (p : ℕ) (l : Look) → IsTrue (looks_at p l) → life_after_mark l ≡ 0 → IsTrue (saw_none_at p l)
marked_free p look.Nowhere looks dead = absurd (cc)
marked_free p (look.At q) looks dead = absurd (omega arith)
marked_free p (look.Saw q note.None) looks dead = looks
marked_free p (look.Saw q note.Pending) looks dead = absurd (omega arith)
marked_free p (look.Saw q note.Received) looks dead = absurd (omega arith)

marked_le : (l : Look) → life_after_mark l ≤ 1
marked_le look.Nowhere = omega arith
marked_le (look.At q) = omega arith
marked_le (look.Saw q note.None) = omega arith
marked_le (look.Saw q note.Pending) = omega arith
marked_le (look.Saw q note.Received) = omega arith

mark_life_keeps : (s p : ℕ) → Keeps (event.MarkLife s p)
mark_life_keeps s p w o e = lived w (upd w.life p (life_after_mark (w.look s))) w.uses (upd w.look s look.Nowhere) o o.engaged (record {
  used = λ q at. upd_case w.life p (life_after_mark (w.look s)) (λ r v. sum_below w.senders (λ t. w.uses t r) ≡ v - 2) q (λ same. rw same (let was = o.lives.used p place in let u = unused in let most = marked_le (w.look s) in omega arith)) (λ ne. o.lives.used q at);
  looked = looked_changed w s look.Nowhere o near p (life_after_mark (w.look s)) place
      (let one : bit (w.life p == 2) ≡ 1 = rw unused refl in let here : bit (looks_at p (w.look s)) ≡ 1 = rw looks refl in let none : bit (life_after_mark (w.look s) == 2) ≡ 0 = rw (ne_eqb (life_after_mark (w.look s)) 2 (let most = marked_le (w.look s) in omega arith)) refl in omega arith)
      (λ q ne. let same = ap bit (looks_once p q (w.look s) looks) in let elsewhere = bit_elsewhere p q ne in omega arith);
  free = λ q at. upd_case w.life p (life_after_mark (w.look s)) (λ r v. v ≡ 0 → IsQuiet w.owner (w.sent r) (w.jobs r) (w.note r)) q
      (λ same dead. rw same (o.lives.saw_none s p near place (marked_free p (w.look s) looks dead)))
      (λ ne dead. o.lives.free q at dead);
  saw_none = saw_kept w s look.Nowhere o near (λ q at saw. absurd (cc));
  one_user = o.lives.one_user;
}) where
  near : s < w.senders
  near = e.there.sender

  place : p < w.places
  place = e.there.place

  looks : IsTrue (looks_at p (w.look s))
  looks = e.conditions.0

  unused : w.life p ≡ 2
  unused = looked_unused w s p o near place looks

pub lives_keep : LivesKeep
lives_keep = record {
  create = create_keeps;
  clone_use = clone_use_keeps;
  release_use = release_use_keeps;
  claim = claim_keeps;
  look_note = look_note_keeps;
  mark_life = mark_life_keeps;
}
